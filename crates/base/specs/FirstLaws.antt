-- Laws of searches, for their users: two in a row, the same test, and where a search ends.
-- Assumes nothing.
use Rattle.std.specs.Prelude.{◌≡◌, refl, Bool, true, false, ◌||◌, ℕ, zero, suc, ◌+◌, ◌-◌, ◌≤◌, ◌<◌, T}
use Rattle.std.proofs.Common.{sym, ◌∙◌, subst, add-zero, add-suc, arith}
use Rattle.std.proofs.Math.Decide.{dec_lt}
use Rattle.base.specs.First.{First, found, first_from, first, found-false, first_is}

or_assoc : (a b c : Bool) → (a || b) || c ≡ a || (b || c)
or_assoc true b c = refl
or_assoc false b c = refl

or_false : (a : Bool) → a ≡ a || false
or_false true = refl
or_false false = refl

pub found_join : (test : ℕ → Bool) (a n : ℕ) → found test (a + n) ≡ found test a || found (λ k. test (a + k)) n
unfolding found
found_join test a zero = rw add-zero (or_false (found test a))
found_join test a (suc n) = rw (add-suc, found_join test a n) (or_assoc (found test a) (found (λ k. test (a + k)) n) (test (a + n)))

pub found_same : (test test' : ℕ → Bool) (n : ℕ) → ((k : ℕ) → k < n → test k ≡ test' k) → found test n ≡ found test' n
unfolding found
found_same test test' zero h = refl
found_same test test' (suc n) h = rw (found_same test test' n (λ k l. h k (omega arith)), h n (omega arith))

differ : {b : Bool} → b ≡ true → b ≡ false → ⊥
differ e d = subst T (sym e ∙ d) tt

pub found_at : (test : ℕ → Bool) (n k : ℕ) → k < n → test k ≡ true → found test n ≡ true
found_at test n k h e = cases (found test n) refl
  where
    cases : (b : Bool) → found test n ≡ b → found test n ≡ true
    cases true d = d
    cases false d = absurd (differ e (found-false test n d k h))

pub first_same : (test test' : ℕ → Bool) (n : ℕ) → ((k : ℕ) → k < n → test k ≡ test' k) → first test n ≡ first test' n
unfolding first_from
first_same test test' n h = from 0 n (omega arith)
  where
    from : (k m : ℕ) → k + m ≤ n → first_from test k m ≡ first_from test' k m
    from k zero l = refl
    from k (suc m) l = rw (h k (omega arith), from (k + 1) m (omega arith))

-- the place at which a search ends
pub first_unique : (test : ℕ → Bool) (n i : ℕ) → i < n → test i ≡ true → ((j : ℕ) → j < i → test j ≡ false) → first test n ≡ i
first_unique test n i h e least = go (dec_lt (first test n) i) (dec_lt i (first test n))
  where
    f : First test 0 n (first test n)
    f = first_is test n (found_at test n i h e)

    go : Dec (first test n < i) → Dec (i < first test n) → first test n ≡ i
    go (yes l) q = absurd (differ f.holds (least (first test n) l))
    go (no l) (yes q) = absurd (differ e (f.least i (omega arith) q))
    go (no l) (no q) = omega arith

-- nothing among the first a, and something among the n behind them
pub first_behind : (test : ℕ → Bool) (a n m : ℕ) → found test a ≡ false → found (λ k. test (a + k)) n ≡ true → a + n ≤ m → first test m ≡ a + first (λ k. test (a + k)) n
first_behind test a n m none some h =
    let f = first_is (λ k. test (a + k)) n some in
    let to = f.to in
    first_unique test m _ (omega arith) f.holds (λ j l. before j l (dec_lt j a))
  where
    before : (j : ℕ) → j < a + first (λ k. test (a + k)) n → Dec (j < a) → test j ≡ false
    before j l (yes q) = found-false test a none j q
    before j l (no q) =
        let f = first_is (λ k. test (a + k)) n some in
        let s : a + (j - a) ≡ j = omega arith in
        rw s at (f.least (j - a) (omega arith) (omega arith))

pub first_nowhere : (test : ℕ → Bool) (n : ℕ) → found test n ≡ false → first test n ≡ n
unfolding first_from
first_nowhere test n none = from n 0 (omega arith)
  where
    from : (m k : ℕ) → k + m ≡ n → first_from test k m ≡ n
    from zero k e = omega arith
    from (suc m) k e = rw (found-false test n none k (omega arith)) (from m (k + 1) (omega arith))
