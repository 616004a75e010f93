-- A packed cell: document 01's word of 32 bits for what the pass reads of a cell.
-- Assumes nothing.
use Rattle.std.specs.Prelude.{Bool, cond, ℕ, ◌+◌, ◌*◌, ◌/◌, ◌%◌, ◌^◌, ◌<◌, eqb}
use Rattle.cells.specs.declared.LfCell.{LfCell}

abbrev pub bit : Bool → ℕ
bit b = cond b 1 0

-- the fields one behind the other, from the most significant bit on: 2 bits each for two widths, two heights and two
-- transforms, two flags, 6 bits for the level, and 12 zero bits
unfoldable pub packed : LfCell → ℕ
packed c =
    ((((((((c.width0 * 4 + c.width1) * 4 + c.height0) * 4 + c.height1) * 4 + c.tx) * 4 + c.uvtx) * 2 + bit c.skipped) * 2
    + bit c.present) * 64 + c.level) * 4096

-- the fields of any word of 32 bits, whether a block makes it or not
unfoldable pub cell_of : ℕ → LfCell
cell_of w =
    record {
      width0 = w / 2 ^ 30 % 4;
      width1 = w / 2 ^ 28 % 4;
      height0 = w / 2 ^ 26 % 4;
      height1 = w / 2 ^ 24 % 4;
      tx = w / 2 ^ 22 % 4;
      uvtx = w / 2 ^ 20 % 4;
      skipped = eqb (w / 2 ^ 19 % 2) 1;
      present = eqb (w / 2 ^ 18 % 2) 1;
      level = w / 2 ^ 12 % 64;
    }

-- the logarithms by subsampling, and the transform by plane
abbrev pub width_log2 : LfCell → (sub : Bool) → ℕ
width_log2 c sub = cond sub c.width1 c.width0

abbrev pub height_log2 : LfCell → (sub : Bool) → ℕ
height_log2 c sub = cond sub c.height1 c.height0

abbrev pub tx_of : LfCell → (chroma : Bool) → ℕ
tx_of c chroma = cond chroma c.uvtx c.tx

-- fields that fit their bits
pub record Fields (c : LfCell) : Type 0 where
  pub width0 : c.width0 < 4
  pub width1 : c.width1 < 4
  pub height0 : c.height0 < 4
  pub height1 : c.height1 < 4
  pub tx : c.tx < 4
  pub uvtx : c.uvtx < 4
  pub level : c.level < 64
