-- Orders of work. `run step l s` does the steps of l from s, first to last. Two lists that hold the same members, each once, come to
-- the same end if every two members whose order differs between them have steps that can be exchanged (`same_run`).
-- Assumes nothing.
use Rattle.std.specs.Prelude.{◌≡◌, refl, ◌⊎◌, ℕ, zero, suc, ◌<◌}
use Rattle.std.proofs.Common.{sym, ap, ◌∙◌, inl, inr, suc-le-suc, le_of_suc-le-suc, not-suc-le-zero, zero-lt-suc, arith, List, [], ◌∷◌}
use Rattle.std.proofs.Math.Option.{some}
use mathlib.Core.List.Memᴰ
use mathlib.Core.List.{Memᴰ}
use Rattle.std.proofs.Math.ListN.{get_elem?}

-- ---- a list as an order

module _ {A : Type 0} where
  -- a stands in l at some place, and b at a later one
  pub data Before (a b : A) : List A → Type 0 where
    Before-now : {x : A} {xs : List A} → a ≡ x → Memᴰ b xs → Before a b (x ∷ xs)
    Before-later : {x : A} {xs : List A} → Before a b xs → Before a b (x ∷ xs)

  -- nothing stands in l at two places
  abbrev pub Once : List A → Type 0
  Once l = (a : A) → Before a a l → ⊥

  -- the two lists have the same members
  pub record SameMembers (l m : List A) : Type 0 where
    pub there : (a : A) → Memᴰ a l → Memᴰ a m
    pub back : (a : A) → Memᴰ a m → Memᴰ a l

  pub before_left : {a b : A} {l : List A} → Before a b l → Memᴰ a l
  before_left (Before-now e h) = Memᴰ.head e
  before_left (Before-later r) = Memᴰ.tail (before_left r)

  -- ---- the same by places: some i is below some j, with a at i and b at j

  mem_place : {b : A} {l : List A} → Memᴰ b l → (j : ℕ) × (get_elem? l j ≡ some b)
  mem_place (Memᴰ.head e) = (zero, ap some (sym e))
  mem_place (Memᴰ.tail m) = let r = mem_place m in (suc r.0, r.1)

  place_mem : {b : A} (l : List A) (j : ℕ) → get_elem? l j ≡ some b → Memᴰ b l
  place_mem [] j e = absurd (let z : ◌≡◌ {A = ℕ} 0 1 = cc in omega arith)
  place_mem (x ∷ l) zero e = Memᴰ.head {x = x} (cc)
  place_mem (x ∷ l) (suc j) e = Memᴰ.tail (place_mem l j e)

  pub before_places : {a b : A} {l : List A} → Before a b l → (i : ℕ) × (j : ℕ) × (i < j) × (get_elem? l i ≡ some a) × (get_elem? l j ≡ some b)
  before_places (Before-now e m) = let r = mem_place m in (zero, suc r.0, zero-lt-suc r.0, ap some (sym e), r.1)
  before_places (Before-later r) = let q = before_places r in (suc q.0, suc q.1, suc-le-suc q.2, q.3, q.4)

  pub places_before : {a b : A} (l : List A) (i j : ℕ) → i < j → get_elem? l i ≡ some a → get_elem? l j ≡ some b → Before a b l
  places_before [] i j h e d = absurd (let z : ◌≡◌ {A = ℕ} 0 1 = cc in omega arith)
  places_before (x ∷ l) i zero h e d = absurd (not-suc-le-zero h)
  places_before (x ∷ l) zero (suc j) h e d = Before-now {x = x} (cc) (place_mem l j d)
  places_before (x ∷ l) (suc i) (suc j) h e d = Before-later (places_before l i j (le_of_suc-le-suc h) e d)

  -- ---- l without the one place of a that h tells

  abbrev without : {a : A} {l : List A} → Memᴰ a l → List A
  without (Memᴰ.head {xs = xs} e) = xs
  without (Memᴰ.tail {x = x} h) = x ∷ without h

  without_mem : {a x : A} {l : List A} (h : Memᴰ a l) → Memᴰ x (without h) → Memᴰ x l
  without_mem (Memᴰ.head e) m = Memᴰ.tail m
  without_mem (Memᴰ.tail h) (Memᴰ.head e) = Memᴰ.head e
  without_mem (Memᴰ.tail h) (Memᴰ.tail m) = Memᴰ.tail (without_mem h m)

  mem_without : {a x : A} {l : List A} (h : Memᴰ a l) → Memᴰ x l → (x ≡ a) ⊎ Memᴰ x (without h)
  mem_without (Memᴰ.head e) (Memᴰ.head d) = inl (d ∙ sym e)
  mem_without (Memᴰ.head e) (Memᴰ.tail m) = inr m
  mem_without (Memᴰ.tail h) (Memᴰ.head d) = inr (Memᴰ.head d)
  mem_without {a} {x} (Memᴰ.tail {x = y} h) (Memᴰ.tail m) = go (mem_without h m)
    where
      go : (x ≡ a) ⊎ Memᴰ x (without h) → (x ≡ a) ⊎ Memᴰ x (y ∷ without h)
      go (inl e) = inl e
      go (inr k) = inr (Memᴰ.tail k)

  without_before : {a x y : A} {l : List A} (h : Memᴰ a l) → Before x y (without h) → Before x y l
  without_before (Memᴰ.head e) r = Before-later r
  without_before (Memᴰ.tail h) (Before-now e m) = Before-now e (without_mem h m)
  without_before (Memᴰ.tail h) (Before-later r) = Before-later (without_before h r)

  without_twice : {a : A} {l : List A} (h : Memᴰ a l) → Memᴰ a (without h) → Before a a l
  without_twice (Memᴰ.head e) m = Before-now e m
  without_twice (Memᴰ.tail h) (Memᴰ.head e) = Before-now e h
  without_twice (Memᴰ.tail h) (Memᴰ.tail m) = Before-later (without_twice h m)

-- ---- doing the steps of a list

abbrev pub run : {A S : Type 0} → (A → S → S) → List A → S → S
run step [] s = s
run step (a ∷ l) s = run step l (step a s)

-- only the steps of the list's members count
pub run_same : {A S : Type 0} (step step' : A → S → S) (l : List A) → ((a : A) → Memᴰ a l → (s : S) → step a s ≡ step' a s) → (s : S) → run step l s ≡ run step' l s
run_same step step' [] h s = refl
run_same step step' (a ∷ l) h s =
    ap (run step l) (h a (Memᴰ.head refl) s) ∙ run_same step step' l (λ b m. h b (Memᴰ.tail m)) (step' a s)

module _ {A S : Type 0} (step : A → S → S) where
  -- the steps of a and b can be exchanged
  abbrev pub Exchange : A → A → Type 0
  Exchange a b = (s : S) → step a (step b s) ≡ step b (step a s)

  -- a can be done first, if it can be exchanged with all that stand before it
  first : {a : A} {l : List A} (h : Memᴰ a l) → ((b : A) → Before b a l → Exchange a b) → (s : S) → run step l s ≡ run step (without h) (step a s)
  first (Memᴰ.head {xs = xs} e) ex s = ap (λ (x : A). run step xs (step x s)) (sym e)
  first {a} (Memᴰ.tail {x = x} {xs = xs} h) ex s =
      first h (λ b r. ex b (Before-later r)) (step x s)
      ∙ ap (λ (t : S). run step (without h) t) (ex x (Before-now refl h) s)

  -- THE LAW. Two lists with the same members, each once; any two whose order differs can be exchanged: the same end.
  pub same_run : (l m : List A) → Once l → Once m → SameMembers l m → ((a b : A) → Before a b l → Before b a m → Exchange a b) → (s : S) → run step l s ≡ run step m s
  same_run [] [] ol om sm ex s = refl
  same_run [] (x ∷ m) ol om sm ex s = absurd (Memᴰ.not-nil (sm.back x (Memᴰ.head refl)))
  same_run (a ∷ l) m ol om sm ex s =
      same_run l (without at) (λ x r. ol x (Before-later r)) (λ x r. om x (without_before at r))
      (record {
        there = λ x k. there x k (mem_without at (sm.there x (Memᴰ.tail k)));
        back = λ x k. back x k (Memᴰ.cases_cons (sm.back x (without_mem at k)));
      })
      (λ x y r q. ex x y (Before-later r) (without_before at q)) (step a s)
      ∙ sym (first at (λ b r. ex a b (Before-now refl (after b r (Memᴰ.cases_cons (sm.back b (before_left r))))) r) s)
    where
      at : Memᴰ a m
      at = sm.there a (Memᴰ.head refl)

      there : (x : A) → Memᴰ x l → (x ≡ a) ⊎ Memᴰ x (without at) → Memᴰ x (without at)
      there x k (inl e) = absurd (ol a (Before-now refl (Memᴰ.cast (sym e) k)))
      there x k (inr w) = w

      back : (x : A) → Memᴰ x (without at) → (x ≡ a) ⊎ Memᴰ x l → Memᴰ x l
      back x k (inl e) = absurd (om a (without_twice at (Memᴰ.cast (sym e) k)))
      back x k (inr w) = w

      -- what stands before a in m stands behind it in a ∷ l
      after : (b : A) → Before b a m → (b ≡ a) ⊎ Memᴰ b l → Memᴰ b l
      after b r (inl e) = absurd (om a (cast_left e r))
        where
          cast_left : {b' : A} {k : List A} → b' ≡ a → Before b' a k → Before a a k
          cast_left e' (Before-now d h) = Before-now (sym e' ∙ d) h
          cast_left e' (Before-later q) = Before-later (cast_left e' q)
      after b r (inr w) = w
