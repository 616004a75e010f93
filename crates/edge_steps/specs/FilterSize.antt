-- 8.8.3: the filter size of a position. Sizes are transforms: TX_4X4 is 0, TX_8X8 1, TX_16X16 2.
-- Assumes nothing.
use Rattle.std.specs.Prelude.{Bool, cond, ◌&&◌, ℕ, ◌+◌, ◌/◌, min, eqb}
use Rattle.geometry.specs.declared.Pass.{Pass}
use Rattle.geometry.specs.declared.Pass.TheVariants.{Vertical, Horizontal}
use Rattle.geometry.specs.declared.Superblock.{Superblock}

abbrev pub base_size : (tx_sz : ℕ) (is32_edge : Bool) → ℕ
base_size tx_sz is32_edge = cond (eqb tx_sz 0 && is32_edge) 1 (min 2 tx_sz)

-- x >> 3 = MiCols - 1, or y >> 3 = MiRows - 1: the position's own column or row is the last
abbrev pub at_last : Superblock → Pass → (x y : ℕ) → Bool
at_last s Vertical x y = s.subx && eqb (x / 8 + 1) s.cols
at_last s Horizontal x y = s.suby && eqb (y / 8 + 1) s.rows

unfoldable pub filter_size : Superblock → Pass → (tx_sz : ℕ) (is32_edge : Bool) (x y : ℕ) → ℕ
filter_size s pass tx_sz is32_edge x y =
    cond (eqb (base_size tx_sz is32_edge) 2 && at_last s pass x y) 1 (base_size tx_sz is32_edge)
