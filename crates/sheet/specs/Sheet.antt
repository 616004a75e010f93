-- Document 01's run sheet: what it holds, its refusals, and the text that is printed for it.
-- Assumes nothing.
use Rattle.std.specs.Prelude.{List, ◌++◌, ℕ, ◌-◌, ◌*◌, ◌/◌, ltb, length}
use Rattle.base.specs.First.{refuse_first}
use Rattle.base.specs.Outcome.{Outcome, accepted, refused, refuse}
use Rattle.word_bytes.specs.WordBytes.{words_at}
use Rattle.bad_words.specs.BadWord.{bad_cell}
use Rattle.decided.specs.Decided.{Setting, setting_of}
use Rattle.decided.specs.Runs.{runs}
use Rattle.decided.specs.declared.EdgeRun.{EdgeRun}
use Rattle.decisions.specs.Decision.{levelless}
use Rattle.geometry.specs.Frame.{cells_from}
use Rattle.base.specs.Depth.{supported}
use Rattle.faults.specs.Faults.{numbers_refused}
use Rattle.pass_edges.specs.PassEdges.{pass_of, edge_count}
use Rattle.sheet_lines.specs.SheetLines.{first_line, run_lines, refusal_line}
use Rattle.sheet_header.specs.SheetHeader.{header_of, bad_header}
use Rattle.sheet_header.specs.declared.SheetHeader.{SheetHeader}

-- ---- the sheet

-- what the header and the cells of the superblock row make of a pass
abbrev pub sheet_setting : SheetHeader → (cells : List ℕ) → Setting
sheet_setting h cells = setting_of h.sharpness h.depth h.subx h.suby h.cols h.rows h.row h.col h.plane cells

-- the runs, and the refusals 11 and 14, which the cells decide
unfoldable pub cells_runs : SheetHeader → (cells : List ℕ) → Outcome (List EdgeRun)
cells_runs h cells =
    let t = sheet_setting h cells in
    let s = t.superblock in
    let pass = pass_of h.pass in
    refuse_first (bad_cell cells) (cells_from h.row h.cols h.rows) 11
    (refuse_first (levelless s pass t.chroma cells) (64 * edge_count s pass) 14
    (accepted (runs s pass t.chroma cells)))

-- the cells, from the words behind the header
abbrev pub cells_of : (bytes : List ℕ) → List ℕ
cells_of bytes = let h = header_of bytes in words_at bytes 8 (cells_from h.row h.cols h.rows)

-- the runs of a sheet: under 8 bytes it gets 7 before any other test, then 17 is tested, then the rest in number order
unfoldable pub sheet_runs : (bytes : List ℕ) → Outcome (List EdgeRun)
sheet_runs bytes =
    let h = header_of bytes in
    refuse (ltb (length bytes) 8) 7 0
    (refuse (bad_header h) 17 0
    (numbers_refused h.sharpness (supported h.depth) h.subx h.suby h.cols h.rows h.row h.col h.plane h.pass ((length bytes - 8) / 4)
    (cells_runs h (cells_of bytes))))

-- ---- its text

abbrev pub printed : SheetHeader → Outcome (List EdgeRun) → List ℕ
printed h (accepted l) = first_line h ++ run_lines l
printed h (refused number place) = refusal_line number place

-- THE RUN SHEET: the text that is printed for the bytes of a sheet
unfoldable pub run_sheet : (bytes : List ℕ) → List ℕ
run_sheet bytes = printed (header_of bytes) (sheet_runs bytes)
