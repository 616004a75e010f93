-- The row's cells as records, in a list that the caller lends.
-- Assumes nothing.
use Rattle.std.specs.Prelude.{List, ℕ, zero, suc, min, length, get_or, set, replicate}
use Rattle.base.specs.Outcome.{Outcome, accepted, refused}
use Rattle.geometry.specs.Frame.{cells_from}
use Rattle.row.specs.Row.{ModeInfo, row}
use Rattle.row.specs.declared.numbers.RowNumbers.{RowNumbers}
use Rattle.cell_records.specs.CellRecord.{record_of}
use Rattle.cell_records.specs.declared.CellRecord.{CellRecord}

-- the first n records are those of the words; what stands behind is left
unfoldable pub stored : List ℕ → ℕ → List CellRecord → List CellRecord
stored words zero records = records
stored words (suc n) records = set (stored words n records) n (record_of (get_or words n 0))

-- the row with its numbers in a record
abbrev pub row_with : ModeInfo → (levels : List ℕ) → RowNumbers → (cells : List ℕ) → Outcome (List ℕ)
row_with m levels p cells = row m levels p.sharpness p.bit_depth p.sub_x p.sub_y p.mi_cols p.mi_rows p.mi_row cells

abbrev pub cells_in : RowNumbers → ℕ
cells_in p = cells_from p.mi_row p.mi_cols p.mi_rows

-- what the row's words become: the first n of them are stored as records. A refusal is passed on
abbrev pub as_records : Outcome (List ℕ) → ℕ → List CellRecord → Outcome (List CellRecord)
as_records (accepted words) n records = accepted (stored words n records)
as_records (refused number place) n records = refused number place

-- a word 0 for each of n records, but no more than a row has cells at most
abbrev pub zeros : ℕ → List ℕ
zeros n = replicate (min n 65536) 0

-- the row, whose cells come first in the list of records; what stands behind them is left
unfoldable pub row_records : ModeInfo → (levels : List ℕ) → RowNumbers → List CellRecord → Outcome (List CellRecord)
row_records m levels p records = as_records (row_with m levels p (zeros (length records))) (cells_in p) records
