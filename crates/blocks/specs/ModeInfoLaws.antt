-- Laws of a cell's mode info for its users.
-- Assumes nothing.
use Rattle.std.specs.Prelude.{◌≡◌, Bool, true, false, ◌||◌, ℕ, ◌≤◌, ltb}
use Rattle.std.proofs.Common.{arith, ltb-false}
use Rattle.base.specs.Tests.{neither}
use Rattle.blocks.specs.ModeInfo.{bad_block, sb_size}

-- what is known of a block that is not bad
pub record Block (mi_size tx_size skip : ℕ) : Type 0 where
  pub size : mi_size ≤ 12
  pub tx : tx_size ≤ 3
  pub flag : skip ≤ 1

pub block : (mi_size tx_size skip : ℕ) → bad_block mi_size tx_size skip ≡ false → Block mi_size tx_size skip
unfolding bad_block
block mi_size tx_size skip e =
    let s = neither (ltb 12 mi_size || ltb 3 tx_size) e in
    let t = neither (ltb 12 mi_size) s.0 in
    record { size = ltb-false 12 mi_size t.0; tx = ltb-false 3 tx_size t.1; flag = ltb-false 1 skip s.1 }

pub sb_size_small : (sub : Bool) (mi_size : ℕ) → mi_size ≤ 12 → sb_size sub mi_size ≤ 12
unfolding sb_size
sb_size_small true mi_size h = omega arith
sb_size_small false mi_size h = h
