-- What 8.8.2 makes of a cell's mode info, in steps 7 and 9, and document 01's test of it.
-- Assumes nothing.
use Rattle.std.specs.Prelude.{Bool, cond, not, ◌||◌, ℕ, max, ltb, ℤ, pos}
use Rattle.std.specs.Int.Signed.{lt_z}

-- 8: a block size above 12, a transform above 3 or a skip above 1
unfoldable pub bad_block : (mi_size tx_size skip : ℕ) → Bool
bad_block mi_size tx_size skip = ltb 12 mi_size || ltb 3 tx_size || ltb 1 skip

-- step 7: sbSize, where BLOCK_16X16 is 6
unfoldable pub sb_size : (sub : Bool) (mi_size : ℕ) → ℕ
sb_size sub mi_size = cond sub (max 6 mi_size) mi_size

-- step 9: isIntra, where INTRA_FRAME is 0
unfoldable pub is_intra : (ref_frame : ℤ) → Bool
is_intra ref_frame = not (lt_z (pos 0) ref_frame)
