-- A cell as a record of plain numbers: the word that it packs to, and the record of a word.
-- Assumes nothing.
use Rattle.std.specs.Prelude.{Bool, cond, ◌||◌, List, ℕ, eqb, ltb, length, get_or}
use Rattle.base.specs.Filled.{table}
use Rattle.cells.specs.Cell.{bit, packed, cell_of}
use Rattle.cells.specs.declared.LfCell.{LfCell}
use Rattle.cell_records.specs.declared.CellRecord.{CellRecord}

-- a field is too large for its bits of the word: two for each but the flags, which have one, and the level, which has six
abbrev pub too_large : CellRecord → Bool
too_large c =
    ltb 3 c.width0 || ltb 3 c.width1 || ltb 3 c.height0 || ltb 3 c.height1 || ltb 3 c.tx || ltb 3 c.uvtx || ltb 1 c.skipped
    || ltb 1 c.present || ltb 63 c.level

-- the cell of a record whose fields fit
abbrev pub cell_in : CellRecord → LfCell
cell_in c =
    record {
      width0 = c.width0;
      width1 = c.width1;
      height0 = c.height0;
      height1 = c.height1;
      tx = c.tx;
      uvtx = c.uvtx;
      skipped = eqb c.skipped 1;
      present = eqb c.present 1;
      level = c.level;
    }

-- the word that a record packs to. Where a field is too large it is 1: a zero bit is set, which 11 refuses
unfoldable pub word_of : CellRecord → ℕ
word_of c = cond (too_large c) 1 (packed (cell_in c))

-- the record of a cell, and of a word
abbrev pub record_in : LfCell → CellRecord
record_in c =
    record {
      width0 = c.width0;
      width1 = c.width1;
      height0 = c.height0;
      height1 = c.height1;
      tx = c.tx;
      uvtx = c.uvtx;
      skipped = bit c.skipped;
      present = bit c.present;
      level = c.level;
    }

abbrev pub record_of : ℕ → CellRecord
record_of w = record_in (cell_of w)

-- what stands for a record that a list does not have
abbrev pub none : CellRecord
none = record_of 0

-- the words that a list of records packs to
unfoldable pub words_of : List CellRecord → List ℕ
words_of records = table (λ k. word_of (get_or records k none)) (length records)
