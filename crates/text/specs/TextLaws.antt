-- Laws of text, for its users.
-- Assumes nothing.
use Rattle.std.specs.Prelude.{◌≡◌, refl, Bool, true, false, ◌⊎◌, ℕ, zero, suc, ◌+◌, ◌-◌, ◌*◌, ◌/◌, ◌%◌, ◌^◌, ◌≤◌, ◌<◌, ltb, length, get_or, take, drop, set}
use Rattle.std.proofs.Common.{◌∙◌, inl, inr, ⊎_elim, add-zero, add-suc, suc-add, zero-add, mod-eq_of_lt, add-one, arith, length-append, length-set, length-take-le, take-suc, lt-ltb, le-ltb, ltb-true, ltb-false, List, [], ◌∷◌, ◌++◌}
use mathlib.Core.List.Memᴰ
use mathlib.Core.List.{Memᴰ}
use Rattle.std.proofs.lemmas.List.Edits.{sets, sets-eq}
use Rattle.std.specs.Fmt as Fmt
use Rattle.std.proofs.lemmas.Fmt.{decimal_digit, decimal_step}
use Rattle.text.specs.Text.{digit, decimal_in, decimal, value, value_after, written, Put}

pub written_none : (at : ℕ) (out : List ℕ) → out ≡ written at [] out
unfolding written
written_none at out = refl

pub written-length : (at : ℕ) (text out : List ℕ) → length (written at text out) ≡ length out
unfolding written
written-length at [] out = refl
written-length at (b ∷ text) out = written-length (suc at) text (set out at b) ∙ length-set out at b

-- a text, and the next behind it
pub written_append : (at : ℕ) (a b out : List ℕ) → written (at + length a) b (written at a out) ≡ written at (a ++ b) out
unfolding written
written_append at [] b out = rw (add-zero at)
written_append at (x ∷ a) b out = rw (add-suc at (length a), ← suc-add at (length a)) (written_append (suc at) a b (set out at x))

-- a text's first bytes, and the next
pub written_next : (at : ℕ) (text out : List ℕ) (k : ℕ) → k < length text
    → written (at + k) (get_or text k 0 ∷ []) (written at (take k text) out) ≡ written at (take (k + 1) text) out
written_next at text out k h =
    rw (add-one k, take-suc text k 0 h, ← written_append at (take k text) (get_or text k 0 ∷ []) out, length-take-le k text (omega arith))

-- text that fits, at the front
pub written-front : (text out : List ℕ) → length text ≤ length out → written 0 text out ≡ text ++ drop (length text) out
unfolding written
written-front text out h = at_place 0 text out ∙ rw (sets-eq text out 0 (omega arith), zero-add (length text))
  where
    at_place : (at : ℕ) (text out : List ℕ) → written at text out ≡ sets out at text
    at_place at [] out = refl
    at_place at (b ∷ text) out = at_place (suc at) text (set out at b)

one_or_more : (n : ℕ) → (n < 10) ⊎ (10 ≤ n)
one_or_more n = cases (ltb n 10) refl
  where
    cases : (t : Bool) → ltb n 10 ≡ t → (n < 10) ⊎ (10 ≤ n)
    cases true e = inl (ltb-true n 10 e)
    cases false e = inr (ltb-false n 10 e)

-- the turns left do not matter

one_in : (turns n : ℕ) → n < 10 → decimal_in turns n ≡ digit n ∷ []
unfolding decimal_in
one_in zero n h = rw (mod-eq_of_lt h)
one_in (suc turns) n h = rw (lt-ltb n 10 h)

more_in : (turns n : ℕ) → 10 ≤ n → decimal_in (suc turns) n ≡ decimal_in turns (n / 10) ++ digit (n % 10) ∷ []
unfolding decimal_in
more_in turns n h = rw (le-ltb n 10 h)

enough : (s t n : ℕ) → n ≤ s → n ≤ t → decimal_in s n ≡ decimal_in t n
enough zero t n p q = rw (one_in zero n (omega arith), one_in t n (omega arith))
enough (suc s) zero n p q = rw (one_in (suc s) n (omega arith), one_in zero n (omega arith))
enough (suc s) (suc t) n p q =
    ⊎_elim
    (λ (h : n < 10). rw (one_in (suc s) n h, one_in (suc t) n h))
    (λ (h : 10 ≤ n). rw (more_in s n h, more_in t n h, enough s t (n / 10) (omega arith) (omega arith)))
    (one_or_more n)

pub decimal_one : (n : ℕ) → n < 10 → decimal n ≡ digit n ∷ []
unfolding decimal
decimal_one n h = one_in n n h

pub decimal_more : (n : ℕ) → 10 ≤ n → decimal n ≡ decimal (n / 10) ++ digit (n % 10) ∷ []
unfolding decimal
decimal_more zero h = absurd (omega arith)
decimal_more (suc n) h = rw (more_in n (suc n) h, enough n (suc n / 10) (suc n / 10) (omega arith) (omega arith))

-- what holds of one digit, and of n with its last digit where it holds of n without it
by_digits : (P : ℕ → List ℕ → Type 0) → ((n : ℕ) → n < 10 → P n (digit n ∷ []))
    → ((n : ℕ) (front : List ℕ) → 10 ≤ n → P (n / 10) front → P n (front ++ digit (n % 10) ∷ []))
    → (n : ℕ) → P n (decimal n)
by_digits P one more n = below n n (omega arith)
  where
    below : (b n : ℕ) → n ≤ b → P n (decimal n)
    below zero n l = rw (decimal_one n (omega arith)) (one n (omega arith))
    below (suc b) n l =
        ⊎_elim
        (λ (h : n < 10). rw (decimal_one n h) (one n h))
        (λ (h : 10 ≤ n). rw (decimal_more n h) (more n (decimal (n / 10)) h (below b (n / 10) (omega arith))))
        (one_or_more n)

-- no digit too many, so no leading zero
pub decimal-length : (k n : ℕ) → n < 10 ^ suc k → length (decimal n) ≤ suc k
decimal-length k n = by_digits (λ n l. (k : ℕ) → n < 10 ^ suc k → length l ≤ suc k) (λ n p k q. omega arith) more n k
  where
    more : (n : ℕ) (front : List ℕ) → 10 ≤ n → ((k : ℕ) → n / 10 < 10 ^ suc k → length front ≤ suc k)
        → (k : ℕ) → n < 10 ^ suc k → length (front ++ digit (n % 10) ∷ []) ≤ suc k
    more n front p f zero q = absurd (omega arith)
    more n front p f (suc k) q = omega (arith, length-append front (digit (n % 10) ∷ []), f k (omega arith))

pub decimal-some : (n : ℕ) → 0 < length (decimal n)
decimal-some =
    by_digits (λ n l. 0 < length l) (λ n p. omega arith) (λ n front p f. omega (arith, length-append front (digit (n % 10) ∷ [])))

value_append : (v d : ℕ) (l : List ℕ) → value_after v (l ++ d ∷ []) ≡ 10 * value_after v l + (d - 48)
unfolding value_after
value_append v d [] = refl
value_append v d (x ∷ l) = value_append (10 * v + (x - 48)) d l

-- the decimal of n says n
pub decimal-value : (n : ℕ) → value (decimal n) ≡ n
unfolding value_after
decimal-value =
    by_digits (λ n l. value l ≡ n) (λ n p. omega arith) (λ n front p f. rw (value_append 0 (digit (n % 10)) front, f) (omega arith))

-- and has digits only
pub decimal_digits : (n d : ℕ) → Memᴰ d (decimal n) → (48 ≤ d) × (d ≤ 57)
decimal_digits n d = by_digits (λ n l. Memᴰ d l → (48 ≤ d) × (d ≤ 57)) one more n
  where
    one : (n : ℕ) → n < 10 → Memᴰ d (digit n ∷ []) → (48 ≤ d) × (d ≤ 57)
    one n h m = let e = Memᴰ.eq_of_singleton m in (omega arith, omega arith)

    more : (n : ℕ) (front : List ℕ) → 10 ≤ n → (Memᴰ d front → (48 ≤ d) × (d ≤ 57))
        → Memᴰ d (front ++ digit (n % 10) ∷ []) → (48 ≤ d) × (d ≤ 57)
    more n front p f m = ⊎_elim f (one (n % 10) (omega arith)) (Memᴰ.append_cases front m)

-- text behind text
pub put_then : (at : ℕ) (a b before : List ℕ) {between after : List ℕ} {end end' : ℕ} → Put at a before between end → Put end b between after end' → Put at (a ++ b) before after end'
put_then at a b before p q =
    (q.0 ∙ (λ i. written (p.1 i) b (p.0 i)) ∙ written_append at a b before, q.1 ∙ omega (arith, p.1, length-append a b))

-- the standard library's decimal of a number is the same
pub decimal_std : (n : ℕ) → n < 2 ^ 64 → Fmt.decimal n ≡ decimal n
decimal_std n small = by_digits (λ n l. n < 2 ^ 64 → Fmt.decimal n ≡ l) (λ n h b. decimal_digit n h) (λ n front h f b. decimal_step n h b ∙ rw (f (omega arith)) refl) n small
