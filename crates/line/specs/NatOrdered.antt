-- The order of numbers, as `<=` tells it, is `leb`.
-- Assumes nothing.
use Rattle.std.specs.Prelude.{◌≡◌, ℕ, leb, Some}
use Rattle.std.proofs.Common.{arith, rules}
use Rattle.std.specs.Ordering.{nat_cmp, partial_le}

pub nat_ordered : (a b : ℕ) → partial_le (λ x y. Some (nat_cmp x y)) a b ≡ leb a b
nat_ordered a b = grind (arith, rules)
