-- The first place at which a test holds, and the refusal that names it.
-- Assumes nothing.
use Rattle.std.specs.Prelude.{◌≡◌, refl, ◌⊎◌, Bool, true, false, cond, ◌||◌, ℕ, zero, suc, ◌+◌, ◌-◌, ◌≤◌, ◌<◌, T, Option, Some, None}
use Rattle.std.proofs.Common.{sym, ◌∙◌, subst, inl, inr, ⊎_elim, add-zero, add-suc, eq-or-lt_of_le, le_of_suc-le-suc, not-suc-le-zero, add-one, arith}
use Rattle.base.specs.Outcome.{Outcome, refuse}
use Rattle.base.specs.Tests.{neither}

-- whether the test holds at one of the first n places
unfoldable pub found : (ℕ → Bool) → ℕ → Bool
found test zero = false
found test (suc n) = found test n || test n

-- the first of n places from k on at which it holds, or k + n
unfoldable pub first_from : (ℕ → Bool) → ℕ → ℕ → ℕ
first_from test k zero = k
first_from test k (suc n) = cond (test k) k (first_from test (k + 1) n)

abbrev pub first : (ℕ → Bool) → ℕ → ℕ
first test n = first_from test 0 n

-- the same as an answer: the place, if there is one
abbrev pub first_found : (ℕ → Bool) → ℕ → Option ℕ
first_found test n = cond (found test n) (Some (first test n)) None

-- a line of document 01's table whose place is the smallest that offends
abbrev pub refuse_first : {A : Type 0} → (ℕ → Bool) → ℕ → ℕ → Outcome A → Outcome A
refuse_first test n number after = refuse (found test n) number (first test n) after

pub found-start : (test : ℕ → Bool) → false ≡ found test 0
unfolding found
found-start test = refl

pub found_more : (test : ℕ → Bool) (n : ℕ) → found test n || test n ≡ found test (n + 1)
unfolding found
found_more test n = rw (add-one n)

-- what an answer of a search says of the test
pub place_found : (test : ℕ → Bool) (n : ℕ) {k : ℕ} → first_found test n ≡ Some k → (found test n ≡ true) × (first test n ≡ k)
place_found test n = cases (found test n) refl
  where
    cases : (b : Bool) {k : ℕ} → found test n ≡ b → cond b (Some (first test n)) None ≡ Some k → (found test n ≡ true) × (first test n ≡ k)
    cases true e f = (e, cc)
    cases false e f = absurd cc

pub no_place : (test : ℕ → Bool) (n : ℕ) → first_found test n ≡ None → found test n ≡ false
no_place test n = cases (found test n) refl
  where
    cases : (b : Bool) → found test n ≡ b → cond b (Some (first test n)) None ≡ None → found test n ≡ false
    cases true e f = absurd cc
    cases false e f = e

-- a test that holds nowhere
pub found_none : (test : ℕ → Bool) (n : ℕ) → ((k : ℕ) → k < n → test k ≡ false) → found test n ≡ false
unfolding found
found_none test zero h = refl
found_none test (suc n) h = rw (found_none test n (λ k p. h k (omega arith)), h n (omega arith))

-- and where it was not found, it holds at none of them
pub found-false : (test : ℕ → Bool) (n : ℕ) → found test n ≡ false → (k : ℕ) → k < n → test k ≡ false
unfolding found
found-false test zero e k h = absurd (not-suc-le-zero h)
found-false test (suc n) e k h =
    let s = neither (found test n) e in
    ⊎_elim (λ (q : k ≡ n). rw q s.1) (λ (q : k < n). found-false test n s.0 k q) (eq-or-lt_of_le (le_of_suc-le-suc h))

-- where the test holds at one of n places, the first is among them, it holds there, and at none before
pub record First (test : ℕ → Bool) (k n i : ℕ) : Type 0 where
  pub from : k ≤ i
  pub to : i < k + n
  pub holds : test i ≡ true
  pub least : (j : ℕ) → k ≤ j → j < i → test j ≡ false

-- a search finds the first place, or the test holds nowhere
search_from : (test : ℕ → Bool) (k n : ℕ) → First test k n (first_from test k n) ⊎ ((j : ℕ) → k ≤ j → j < k + n → test j ≡ false)
unfolding first_from
search_from test k zero = inr (λ j p q. absurd (omega arith))
search_from test k (suc n) = cases (test k) refl (search_from test (k + 1) n)
  where
    here_or_later : (j : ℕ) → test k ≡ false → k ≤ j → (k + 1 ≤ j → test j ≡ false) → test j ≡ false
    here_or_later j e p h = ⊎_elim (λ (q : k ≡ j). rw q at e) (λ (q : k < j). h (omega arith)) (eq-or-lt_of_le p)

    cases : (b : Bool) → test k ≡ b → First test (k + 1) n (first_from test (k + 1) n) ⊎ ((j : ℕ) → k + 1 ≤ j → j < k + 1 + n → test j ≡ false) → First test k (suc n) (cond b k (first_from test (k + 1) n)) ⊎ ((j : ℕ) → k ≤ j → j < k + suc n → test j ≡ false)
    cases true e r = inl (record { from = omega arith; to = omega arith; holds = e; least = λ j p q. absurd (omega arith) })
    cases false e (inl f) =
        let from = f.from in
        let to = f.to in
        inl (record { from = omega arith; to = omega arith; holds = f.holds; least = λ j p q. here_or_later j e p (λ h. f.least j h q) })
    cases false e (inr g) = inr (λ j p q. here_or_later j e p (λ h. g j h (omega arith)))

pub first_is : (test : ℕ → Bool) (n : ℕ) → found test n ≡ true → First test 0 n (first test n)
first_is test n e =
    ⊎_elim (λ f. f) (λ (g : (j : ℕ) → 0 ≤ j → j < 0 + n → test j ≡ false). absurd (differ (found_none test n (λ k h. g k (omega arith) (omega arith))))) (search_from test 0 n)
  where
    differ : found test n ≡ false → ⊥
    differ f = absurd (subst T (sym e ∙ f) tt)

-- a search that has come to place k of n: it ends there, or goes on
pub first_here : (test : ℕ → Bool) (k n : ℕ) → k < n → test k ≡ true → first_from test k (n - k) ≡ k
unfolding first_from
first_here test k n p e = let s : n - k ≡ suc (n - (k + 1)) = omega arith in rw (s, e)

pub first_next : (test : ℕ → Bool) (k n : ℕ) → k < n → test k ≡ false → first_from test k (n - k) ≡ first_from test (k + 1) (n - (k + 1))
unfolding first_from
first_next test k n p e = let s : n - k ≡ suc (n - (k + 1)) = omega arith in rw (s, e)

-- or passes over m places at which the test does not hold
pub first_skip : (test : ℕ → Bool) (k m n : ℕ) → k + m ≤ n → ((j : ℕ) → j < m → test (k + j) ≡ false) → first_from test k (n - k) ≡ first_from test (k + m) (n - (k + m))
first_skip test k zero n p h = rw (add-zero k)
first_skip test k (suc m) n p h =
    first_skip test k m n (omega arith) (λ j q. h j (omega arith)) ∙ (rw (add-one (k + m), ← add-suc k m) at (first_next test (k + m) n (omega arith) (h m (omega arith))))

pub first_end : (test : ℕ → Bool) (n : ℕ) → first_from test n 0 ≡ n
unfolding first_from
first_end test n = refl

pub first_small : (test : ℕ → Bool) (k n : ℕ) → first_from test k n ≤ k + n
unfolding first_from
first_small test k zero = omega arith
first_small test k (suc n) = at (test k) (first_small test (k + 1) n)
  where
    at : {m : ℕ} (b : Bool) → m ≤ k + 1 + n → cond b k m ≤ k + suc n
    at true h = omega arith
    at false h = omega arith
