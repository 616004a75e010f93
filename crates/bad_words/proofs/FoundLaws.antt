-- A search by the library's methods is the search that definitions speak of.
-- Assumes nothing.
use Rattle.std.specs.Prelude.{◌≡◌, refl, Bool, true, false, ◌||◌, ℕ, zero, suc, ◌+◌, ◌<◌, Option, Some, None}
use Rattle.std.proofs.Common.{◌∙◌, add-zero, arith}
use Rattle.std.specs.List.{fold, range_with_len}
use Rattle.base.specs.First.{found, first_found, found_none}
use Rattle.base.specs.FirstLaws.{found_at, found_join, found_same, first_unique}

or_assoc : (a b c : Bool) → (a || b) || c ≡ a || (b || c)
or_assoc true b c = refl
or_assoc false b c = refl

or_false : (a : Bool) → a ≡ a || false
or_false true = refl
or_false false = refl

fold_from : (test : ℕ → Bool) (a n : ℕ) (b : Bool) → fold (λ any k. any || test k) b (range_with_len a n) ≡ b || found (λ j. test (a + j)) n
unfolding found
fold_from test a zero b = or_false b
fold_from test a (suc n) b =
    let next : 1 + n ≡ suc n = omega arith in
    let one = rw (next, add-zero a) at (found_join (λ j. test (a + j)) 1 n) in
    let same = found_same (λ j. test (a + 1 + j)) (λ k. test (a + (1 + k))) n (λ k h. let e : a + 1 + k ≡ a + (1 + k) = omega arith in rw e) in
    fold_from test (a + 1) n (b || test a) ∙ rw (one, same) (or_assoc b (test a) (found (λ k. test (a + (1 + k))) n))

pub fold_found : (test : ℕ → Bool) (n : ℕ) → fold (λ any k. any || test k) false (range_with_len 0 n) ≡ found test n
fold_found test n = fold_from test 0 n false ∙ found_same (λ j. test (0 + j)) test n (λ k h. let e : 0 + k ≡ k = omega arith in rw e)

pub position_found : (test : ℕ → Bool) (n : ℕ) (r : Option ℕ) → (r ≡ None → (k : ℕ) → k < n → test k ≡ false) → ((i : ℕ) → r ≡ Some i → (i < n) × (test i ≡ true) × ((k : ℕ) → k < i → test k ≡ false)) → r ≡ first_found test n
position_found test n None none some = rw (found_none test n (none refl))
position_found test n (Some i) none some =
    let s = some i refl in
    rw (found_at test n i s.0 s.1, first_unique test n i s.0 s.1 s.2)
