-- Laws of block sizes for their users.
-- Assumes nothing.
use Rattle.std.specs.Prelude.{◌≡◌, ℕ, ◌^◌, ◌≤◌, ◌<◌, get_or, replicate}
use Rattle.std.proofs.Math.Nat.{one-le-pow, pow-le-pow_right}
use Rattle.std.proofs.Common.{zero-add, arith}
use Rattle.base.specs.Filled.{filled_at}
use Rattle.blocks.specs.BlockSizes.{by_size, mi_width_log2, mi_height_log2, num8x8_wide, num8x8_high}

-- a block is at most 8 cells wide and high
pub width_small : (size : ℕ) → size ≤ 12 → mi_width_log2 size ≤ 3
unfolding mi_width_log2
width_small size h = omega arith

pub height_small : (size : ℕ) → size ≤ 12 → mi_height_log2 size ≤ 3
unfolding mi_height_log2
height_small size h = omega arith

-- and at least one
pub record Cells (n : ℕ) : Type 0 where
  pub some : 0 < n
  pub few : n ≤ 8

cells : {n : ℕ} → n ≤ 3 → Cells (2 ^ n)
cells {n} h = record { some = one-le-pow n 2 (omega arith); few = pow-le-pow_right {n = 2} (omega arith) h }

pub wide_cells : (size : ℕ) → size ≤ 12 → Cells (num8x8_wide size)
unfolding num8x8_wide
wide_cells size h = cells (width_small size h)

pub high_cells : (size : ℕ) → size ≤ 12 → Cells (num8x8_high size)
unfolding num8x8_high
high_cells size h = cells (height_small size h)

-- an entry of a table by block size
pub by_size_lem : (f : ℕ → ℕ) (size : ℕ) → size ≤ 12 → get_or (by_size f) size 0 ≡ f size
by_size_lem f size h = rw (zero-add size) at (filled_at f 0 13 (replicate 13 0) size (omega arith) (omega arith))
