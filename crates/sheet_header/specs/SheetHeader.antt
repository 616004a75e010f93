-- Document 01's run sheet: its header.
-- Assumes nothing.
use Rattle.std.specs.Prelude.{Bool, cond, not, ◌||◌, List, ℕ, ◌+◌, ◌*◌, ◌/◌, ◌%◌, ◌^◌, eqb, ltb}
use Rattle.geometry.specs.declared.pass_numbers.PassNumbers.{PassNumbers}
use Rattle.word_bytes.specs.WordBytes.{bytes_at}
use Rattle.sheet_header.specs.declared.SheetHeader.{SheetHeader}

-- depth codes 0, 1, 2 are depths 8, 10, 12; code 3 is none
abbrev pub depth_of : (code : ℕ) → ℕ
depth_of code = cond (ltb code 3) (8 + 2 * code) 0

-- 64 bits, from the most significant on: mi_cols 14, mi_rows 14, x and y subsampling 1 each, sharpness 3, depth code 2, plane 2, pass 1,
-- row base over 8 in 10, column over 8 in 10, spare 6
unfoldable pub header_of : (bytes : List ℕ) → SheetHeader
header_of bytes =
    let bits = bytes_at bytes 0 8 in
    record {
      cols = bits / 2 ^ 50 % 2 ^ 14;
      rows = bits / 2 ^ 36 % 2 ^ 14;
      subx = bits / 2 ^ 35 % 2;
      suby = bits / 2 ^ 34 % 2;
      sharpness = bits / 2 ^ 31 % 2 ^ 3;
      depth = depth_of (bits / 2 ^ 29 % 2 ^ 2);
      plane = bits / 2 ^ 27 % 2 ^ 2;
      pass = bits / 2 ^ 26 % 2;
      row = 8 * (bits / 2 ^ 16 % 2 ^ 10);
      col = 8 * (bits / 2 ^ 6 % 2 ^ 10);
      spare = bits % 2 ^ 6;
    }

-- 17: spare bits set, or mi_cols above 1,024
unfoldable pub bad_header : SheetHeader → Bool
bad_header h = not (eqb h.spare 0) || ltb 1024 h.cols

-- the header's numbers, as those of a pass
abbrev pub numbers_of : SheetHeader → PassNumbers
numbers_of h = record { sharpness = h.sharpness; bit_depth = h.depth; sub_x = h.subx; sub_y = h.suby; mi_cols = h.cols; mi_rows = h.rows; mi_row = h.row; mi_col = h.col; plane = h.plane; pass = h.pass }
