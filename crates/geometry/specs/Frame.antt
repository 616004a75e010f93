-- Document 01's tests of a frame's numbers, and the cells of a superblock row.
-- Assumes nothing.
use Rattle.std.specs.Prelude.{Bool, not, ◌||◌, ℕ, ◌-◌, ◌*◌, ◌%◌, min, eqb, ltb, leb}

-- 3: a subsampling flag above 1
unfoldable pub bad_subsampling : (sub_x sub_y : ℕ) → Bool
bad_subsampling sub_x sub_y = ltb 1 sub_x || ltb 1 sub_y

-- 4: MiCols or MiRows 0 or above 8,192
unfoldable pub bad_frame_size : (mi_cols mi_rows : ℕ) → Bool
bad_frame_size mi_cols mi_rows = eqb mi_cols 0 || ltb 8192 mi_cols || eqb mi_rows 0 || ltb 8192 mi_rows

-- 5 for a row base and MiRows, 10 for a column and MiCols: no multiple of 8, or not below
unfoldable pub bad_start : (start count : ℕ) → Bool
bad_start start count = not (eqb (start % 8) 0) || leb count start

-- the rows of cells that a superblock row has in the frame, and the cells
abbrev pub rows_from : (row mi_rows : ℕ) → ℕ
rows_from row mi_rows = min 8 (mi_rows - row)

abbrev pub cells_from : (row mi_cols mi_rows : ℕ) → ℕ
cells_from row mi_cols mi_rows = rows_from row mi_rows * mi_cols
