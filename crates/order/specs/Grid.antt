-- Lists in rising order, as the decided positions of a pass are: the pairs of a grid, first number by first number, kept where a
-- test admits them (`select`).
-- Assumes nothing.
use Rattle.std.specs.Prelude.{◌≡◌, refl, ◌⊎◌, Bool, true, false, cond, ◌&&◌, ℕ, zero, suc, ◌+◌, ◌≤◌, ◌<◌, T, length}
use Rattle.std.proofs.Common.{ap, ◌∙◌, inl, inr, suc-add, zero-add, arith, List, [], ◌∷◌, ◌++◌}
use mathlib.Core.List.Memᴰ
use mathlib.Core.List.{Memᴰ}
use Rattle.std.proofs.Math.Decide.{ℕ_discrete}
use Rattle.order.specs.Order.{Before, Before-now, Before-later}

-- ---- the members that a test admits

module _ {A : Type 0} where
  abbrev pub keep_if : Bool → A → List A → List A
  keep_if true a l = a ∷ l
  keep_if false a l = l

  abbrev pub select : (A → Bool) → List A → List A
  select t [] = []
  select t (a ∷ l) = keep_if (t a) a (select t l)

  mem_keep : (b : Bool) {x a : A} {l : List A} → Memᴰ x (keep_if b a l) → Memᴰ x (a ∷ l)
  mem_keep true m = m
  mem_keep false m = Memᴰ.tail m

  pub select_mem : (t : A → Bool) (l : List A) {x : A} → Memᴰ x (select t l) → Memᴰ x l
  select_mem t [] {x = x} m = elim m [ ]
  select_mem t (a ∷ l) {x} m = go (mem_keep (t a) m) (select_mem t l)
    where
      go : Memᴰ x (a ∷ select t l) → (Memᴰ x (select t l) → Memᴰ x l) → Memᴰ x (a ∷ l)
      go (Memᴰ.head e) ih = Memᴰ.head e
      go (Memᴰ.tail k) ih = Memᴰ.tail (ih k)

  before_keep : (b : Bool) {x y a : A} {l : List A} → Before x y (keep_if b a l) → Before x y (a ∷ l)
  before_keep true r = r
  before_keep false r = Before-later r

  pub select_before : (t : A → Bool) (l : List A) {x y : A} → Before x y (select t l) → Before x y l
  select_before t [] {x = x} {y = y} r = elim r [ ]
  select_before t (a ∷ l) {x} {y} r = go (before_keep (t a) r) (select_before t l)
    where
      go : Before x y (a ∷ select t l) → (Before x y (select t l) → Before x y l) → Before x y (a ∷ l)
      go (Before-now e m) ih = Before-now e (select_mem t l m)
      go (Before-later q) ih = Before-later (ih q)

  keep_mem : (b : Bool) {x a : A} (l : List A) → T b → x ≡ a → Memᴰ x (keep_if b a l)
  keep_mem true l t e = Memᴰ.head e
  keep_mem false l t e = absurd t

  keep_tail : (b : Bool) {x : A} (a : A) {l : List A} → Memᴰ x l → Memᴰ x (keep_if b a l)
  keep_tail true a m = Memᴰ.tail m
  keep_tail false a m = m

  pub mem_select : (t : A → Bool) {x : A} {l : List A} → Memᴰ x l → T (t x) → Memᴰ x (select t l)
  mem_select t (Memᴰ.head {x = a} {xs = l} e) u = keep_mem (t a) (select t l) (rw e at u) e
  mem_select t (Memᴰ.tail {x = a} m) u = keep_tail (t a) a (mem_select t m u)

  pub select_passes : (t : A → Bool) (l : List A) {x : A} → Memᴰ x (select t l) → T (t x)
  select_passes t [] {x = x} m = elim m [ ]
  select_passes t (a ∷ l) {x} m = go (t a) refl m (select_passes t l)
    where
      go : (b : Bool) → t a ≡ b → Memᴰ x (keep_if b a (select t l)) → (Memᴰ x (select t l) → T (t x)) → T (t x)
      go true e (Memᴰ.head d) ih = rw (d, e) tt
      go true e (Memᴰ.tail k) ih = ih k
      go false e k ih = ih k

  -- only the tests of the list's members count
  pub select_same : (t t' : A → Bool) (l : List A) → ((a : A) → Memᴰ a l → t a ≡ t' a) → select t l ≡ select t' l
  select_same t t' [] h = refl
  select_same t t' (a ∷ l) h = λ i. keep_if (h a (Memᴰ.head refl) i) a (select_same t t' l (λ b m. h b (Memᴰ.tail m)) i)

  keep_append : (b : Bool) (a : A) (l m : List A) → keep_if b a (l ++ m) ≡ keep_if b a l ++ m
  keep_append true a l m = refl
  keep_append false a l m = refl

  pub select_append : (t : A → Bool) (l m : List A) → select t (l ++ m) ≡ select t l ++ select t m
  select_append t [] m = refl
  select_append t (a ∷ l) m = ap (keep_if (t a) a) (select_append t l m) ∙ keep_append (t a) a (select t l) (select t m)

  -- a test that is the same for all keeps all or none
  pub select_const : (b : Bool) (l : List A) → select (λ _. b) l ≡ cond b l []
  select_const true [] = refl
  select_const false [] = refl
  select_const true (a ∷ l) = ap (λ (m : List A). a ∷ m) (select_const true l)
  select_const false (a ∷ l) = select_const false l

  -- two tests, one after the other
  pub select-select : (t u : A → Bool) (l : List A) → select t (select u l) ≡ select (λ a. u a && t a) l
  select-select t u [] = refl
  select-select t u (a ∷ l) = both (u a) (select-select t u l)
    where
      both : (b : Bool) → select t (select u l) ≡ select (λ x. u x && t x) l → select t (keep_if b a (select u l)) ≡ keep_if (b && t a) a (select (λ x. u x && t x) l)
      both true e = ap (keep_if (t a) a) e
      both false e = e

  pub select-length : (t : A → Bool) (l : List A) → length (select t l) ≤ length l
  select-length t [] = omega arith
  select-length t (a ∷ l) = kept (t a) (select-length t l)
    where
      kept : (b : Bool) → length (select t l) ≤ length l → length (keep_if b a (select t l)) ≤ suc (length l)
      kept true h = omega arith
      kept false h = omega arith

  -- where two members of a list in two parts can stand
  pub data Halves (x y : A) (l m : List A) : Type 0 where
    Halves-left : Before x y l → Halves x y l m
    Halves-right : Before x y m → Halves x y l m
    Halves-across : Memᴰ x l → Memᴰ y m → Halves x y l m

  pub before_append : (l m : List A) {x y : A} → Before x y (l ++ m) → Halves x y l m
  before_append [] m r = Halves-right r
  before_append (a ∷ l) m {x} {y} (Before-now e k) = go (Memᴰ.append_cases l k)
    where
      go : Memᴰ y l ⊎ Memᴰ y m → Halves x y (a ∷ l) m
      go (inl u) = Halves-left (Before-now e u)
      go (inr u) = Halves-across (Memᴰ.head e) u
  before_append (a ∷ l) m {x} {y} (Before-later r) = go (before_append l m r)
    where
      go : Halves x y l m → Halves x y (a ∷ l) m
      go (Halves-left u) = Halves-left (Before-later u)
      go (Halves-right u) = Halves-right u
      go (Halves-across u v) = Halves-across (Memᴰ.tail u) v

-- ---- the pairs of a grid, made by mk

module _ {A : Type 0} (mk : ℕ → ℕ → A) where
  -- mk e i, mk e (i + 1), ..: n of them
  abbrev pub strip : ℕ → ℕ → ℕ → List A
  strip e i zero = []
  strip e i (suc n) = mk e i ∷ strip e (suc i) n

  -- the strips of e, e + 1, ..: n of them, each of the first k
  abbrev pub strips : ℕ → ℕ → ℕ → List A
  strips e zero k = []
  strips e (suc n) k = strip e 0 k ++ strips (suc e) n k

  abbrev pub grid : ℕ → ℕ → List A
  grid n k = strips 0 n k

  pub record Cell (x : A) (e₀ e₁ i₀ i₁ : ℕ) : Type 0 where
    pub e : ℕ
    pub i : ℕ
    pub is : x ≡ mk e i
    pub low : e₀ ≤ e
    pub high : e < e₁
    pub from : i₀ ≤ i
    pub to : i < i₁

  pub strip_mem : (e i n : ℕ) {x : A} → Memᴰ x (strip e i n) → Cell x e (suc e) i (i + n)
  strip_mem e i zero m = elim m [ ]
  strip_mem e i (suc n) (Memᴰ.head d) = record { e = e; i = i; is = d; low = omega arith; high = omega arith; from = omega arith; to = omega arith }
  strip_mem e i (suc n) (Memᴰ.tail m) =
      let r = strip_mem e (suc i) n m in
      record { e = r.e; i = r.i; is = r.is; low = r.low; high = r.high; from = omega arith; to = omega arith }

  pub mem_strip : (e i n j : ℕ) → i ≤ j → j < i + n → Memᴰ (mk e j) (strip e i n)
  mem_strip e i zero j h k = absurd (omega arith)
  mem_strip e i (suc n) j h k = go (ℕ_discrete j i) (mem_strip e (suc i) n j)
    where
      go : Dec (j ≡ i) → (suc i ≤ j → j < suc i + n → Memᴰ (mk e j) (strip e (suc i) n)) → Memᴰ (mk e j) (strip e i (suc n))
      go (yes d) ih = Memᴰ.head (ap (mk e) d)
      go (no f) ih = Memᴰ.tail (ih (omega arith) (omega arith))

  -- a strip, and a row of strips, in two parts
  pub strip_split : (e i n m j : ℕ) → j ≡ i + n → strip e i (n + m) ≡ strip e i n ++ strip e j m
  strip_split e i zero m j h = let d : j ≡ i = omega arith in rw (zero-add, d)
  strip_split e i (suc n) m j h = let ih = strip_split e (suc i) n m j (omega arith) in rw suc-add (λ x. mk e i ∷ ih x)

  pub strip_length : (e i n : ℕ) → length (strip e i n) ≡ n
  strip_length e i zero = refl
  strip_length e i (suc n) = ap suc (strip_length e (suc i) n)
