-- What the tests of a frame's numbers leave. Assumes nothing.
use Rattle.std.specs.Prelude.{◌≡◌, false, not, ◌||◌, ℕ, ◌%◌, ◌≤◌, ◌<◌, eqb, ltb}
use Rattle.std.proofs.Common.{mul-le-mul_right, arith, eqb-true, ltb-false, leb-false}
use Rattle.std.proofs.lemmas.Bool.{not-false}
use Rattle.base.specs.Tests.{neither}
use Rattle.geometry.specs.Frame.{bad_subsampling, bad_frame_size, bad_start, rows_from, cells_from}

pub flags : (sub_x sub_y : ℕ) → bad_subsampling sub_x sub_y ≡ false → (sub_x ≤ 1) × (sub_y ≤ 1)
unfolding bad_subsampling
flags sub_x sub_y e = let s = neither (ltb 1 sub_x) e in (ltb-false 1 sub_x s.0, ltb-false 1 sub_y s.1)

pub record Sized (mi_cols mi_rows : ℕ) : Type 0 where
  pub cols : mi_cols ≤ 8192
  pub rows : mi_rows ≤ 8192

pub sized : (mi_cols mi_rows : ℕ) → bad_frame_size mi_cols mi_rows ≡ false → Sized mi_cols mi_rows
unfolding bad_frame_size
sized mi_cols mi_rows e =
    let rows = neither (eqb mi_cols 0 || ltb 8192 mi_cols || eqb mi_rows 0) e in
    let some = neither (eqb mi_cols 0 || ltb 8192 mi_cols) rows.0 in
    let cols = neither (eqb mi_cols 0) some.0 in
    record { cols = ltb-false 8192 mi_cols cols.1; rows = ltb-false 8192 mi_rows rows.1 }

pub record Started (start count : ℕ) : Type 0 where
  pub eighth : start % 8 ≡ 0
  pub below : start < count

pub started : (start count : ℕ) → bad_start start count ≡ false → Started start count
unfolding bad_start
started start count e =
    let s = neither (not (eqb (start % 8) 0)) e in
    record { eighth = eqb-true (start % 8) 0 (not-false (eqb (start % 8) 0) s.0); below = leb-false count start s.1 }

-- a superblock row has at most 65,536 cells
pub cells_small : (row mi_cols mi_rows : ℕ) → mi_cols ≤ 8192 → cells_from row mi_cols mi_rows ≤ 65536
cells_small row mi_cols mi_rows h = omega (arith, mul-le-mul_right mi_cols (eight row mi_rows))
  where
    eight : (row mi_rows : ℕ) → rows_from row mi_rows ≤ 8
    eight row mi_rows = omega arith
