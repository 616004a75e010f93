-- The wide filter process: 8.8.5.3.
-- Assumes nothing.
use Rattle.std.specs.Prelude.{cond, List, ℕ, zero, suc, ◌+◌, ◌-◌, ◌*◌, eqb, ℤ, pos, negsuc, ◌+ℤ◌, ◌-ℤ◌}
use Rattle.base.specs.Filled.{filled}
use Rattle.base.specs.Notation.{clip3, round2}
use Rattle.wide_filter.specs.Taps.{f_at}

-- n: how many samples change on each side
abbrev pub reach : (log2_size : ℕ) → ℕ
reach log2_size = cond (eqb log2_size 3) 3 7

-- of the sum over j = -n .. n, the first m terms
unfoldable pub sum_to : (n : ℕ) (t : List ℕ) (i : ℤ) (m : ℕ) → ℕ
sum_to n t i zero = 0
sum_to n t i (suc m) =
    sum_to n t i m + f_at t (clip3 (negsuc n) (pos n) (i +ℤ (pos m -ℤ pos n))) * cond (eqb m n) 2 1

-- F'[ i ]
unfoldable pub smoothed : (log2_size : ℕ) (t : List ℕ) (i : ℤ) → ℕ
smoothed log2_size t i = round2 (sum_to (reach log2_size) t i (2 * reach log2_size + 1)) log2_size

-- i = -n .. n - 1 are the places from 8 - n on
unfoldable pub wide_filter : (log2_size : ℕ) (t : List ℕ) → List ℕ
wide_filter log2_size t =
    filled (λ (k : ℕ). smoothed log2_size t (pos k -ℤ pos 8)) (8 - reach log2_size) (2 * reach log2_size) t
