-- Laws of a sheet, test by test, as the code makes them.
-- Assumes nothing.
use Rattle.std.specs.Prelude.{◌≡◌, Bool, true, false, List, [], ℕ, ◌-◌, ◌*◌, ◌/◌, ◌≤◌, ◌<◌, ltb, length}
use Rattle.std.proofs.Common.{lt-ltb, le-ltb, arith}
use Rattle.base.specs.Fault.{number_of}
use Rattle.base.specs.First.{found, first}
use Rattle.base.specs.Outcome.{Outcome, accepted, refused}
use Rattle.base.specs.declared.fault.Fault.{Fault}
use Rattle.base.specs.declared.fault.Fault.TheVariants.{Sharpness, Depth, Subsampling, FrameSize, Row, Level, Short, Block, PlaneOrPass, Column, Cell, Window, Sample, NoLevel, FilterSize, Position, Header}
use Rattle.bad_words.specs.BadWord.{bad_cell}
use Rattle.decided.specs.Runs.{runs}
use Rattle.decided.specs.declared.EdgeRun.{EdgeRun}
use Rattle.decisions.specs.Decision.{levelless}
use Rattle.geometry.specs.Frame.{cells_from}
use Rattle.base.specs.Depth.{supported}
use Rattle.faults.specs.Faults.{numbers_refused}
use Rattle.pass_edges.specs.PassEdges.{pass_of, edge_count}
use Rattle.sheet_header.specs.SheetHeader.{header_of, bad_header}
use Rattle.sheet.specs.Sheet.{sheet_setting, cells_of, cells_runs, sheet_runs, printed, run_sheet}
use Rattle.sheet_header.specs.declared.SheetHeader.{SheetHeader}

module _ (bytes : List ℕ) where
  pub sheet_short : length bytes < 8 → sheet_runs bytes ≡ refused 7 0
  unfolding sheet_runs
  sheet_short l = rw (lt-ltb (length bytes) 8 l)

  module _ (h : SheetHeader) (is : h ≡ header_of bytes) where
    pub sheet_spare : 8 ≤ length bytes → bad_header h ≡ true → sheet_runs bytes ≡ refused 17 0
    unfolding sheet_runs
    sheet_spare l bad = rw (le-ltb (length bytes) 8 l, ← is, bad)

    pub sheet_rest : 8 ≤ length bytes → bad_header h ≡ false → sheet_runs bytes
        ≡ numbers_refused h.sharpness (supported h.depth) h.subx h.suby h.cols h.rows h.row h.col h.plane h.pass ((length bytes - 8) / 4) (cells_runs h (cells_of bytes))
    unfolding sheet_runs
    sheet_rest l good = rw (le-ltb (length bytes) 8 l, ← is, good)

    -- so the text is what is printed for that outcome
    pub sheet_text : (o : Outcome (List EdgeRun)) → sheet_runs bytes ≡ o → run_sheet bytes ≡ printed h o
    unfolding run_sheet
    sheet_text o e = rw (← is, e)

-- the tests of the cells: how many there are, and what is looked for among the places of the grid
abbrev pub cell_count : SheetHeader → ℕ
cell_count h = cells_from h.row h.cols h.rows

abbrev pub grid_places : SheetHeader → ℕ
grid_places h = 64 * edge_count (sheet_setting h []).superblock (pass_of h.pass)

abbrev pub levelless_at : SheetHeader → (cells : List ℕ) (place : ℕ) → Bool
levelless_at h cells = levelless (sheet_setting h []).superblock (pass_of h.pass) (ltb 0 h.plane) cells

module _ (h : SheetHeader) (cells : List ℕ) where
  pub cells_bad : found (bad_cell cells) (cell_count h) ≡ true → cells_runs h cells ≡ refused 11 (first (bad_cell cells) (cell_count h))
  unfolding cells_runs
  cells_bad t = rw t

  pub cells_without : found (bad_cell cells) (cell_count h) ≡ false → found (levelless_at h cells) (grid_places h) ≡ true
      → cells_runs h cells ≡ refused 14 (first (levelless_at h cells) (grid_places h))
  unfolding cells_runs
  cells_without t u = rw (t, u)

  pub cells_good : found (bad_cell cells) (cell_count h) ≡ false → found (levelless_at h cells) (grid_places h) ≡ false
      → cells_runs h cells ≡ accepted (runs (sheet_setting h []).superblock (pass_of h.pass) (ltb 0 h.plane) cells)
  unfolding cells_runs
  cells_good t u = rw (t, u)

-- document 01's numbers have two digits
pub number_small : (e : Fault) → number_of e < 100
number_small Sharpness = omega arith
number_small Depth = omega arith
number_small Subsampling = omega arith
number_small FrameSize = omega arith
number_small Row = omega arith
number_small (Level k) = omega arith
number_small Short = omega arith
number_small (Block k) = omega arith
number_small PlaneOrPass = omega arith
number_small Column = omega arith
number_small (Cell k) = omega arith
number_small Window = omega arith
number_small (Sample k) = omega arith
number_small (NoLevel k) = omega arith
number_small FilterSize = omega arith
number_small Position = omega arith
number_small Header = omega arith
