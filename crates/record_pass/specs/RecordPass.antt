-- The pass of the loop filter over a lent list of cell records: it is the pass over the words that they pack to.
-- Assumes nothing.
use Rattle.std.specs.Prelude.{List, ℕ, get_or}
use Rattle.base.specs.Outcome.{Outcome}
use Rattle.window.specs.declared.WindowShape.{WindowShape}
use Rattle.cell_records.specs.CellRecord.{word_of, words_of, none}
use Rattle.cell_records.specs.declared.CellRecord.{CellRecord}
use Rattle.plane_window.specs.PlaneWindow.{pass_over}
use Rattle.geometry.specs.declared.pass_numbers.PassNumbers.{PassNumbers}

-- the word of record k
abbrev pub record_word : List CellRecord → ℕ → ℕ
record_word records k = word_of (get_or records k none)

-- the pass over records
abbrev pub pass_records : WindowShape → PassNumbers → List CellRecord → (samples : List ℕ) → Outcome (List ℕ)
pass_records g p records samples = pass_over g p (words_of records) samples
