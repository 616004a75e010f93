-- How long the text of a run sheet is: at least 1 and at most 2,048 bytes, whatever the sheet holds.
-- Assumes nothing.
use Rattle.std.specs.Prelude.{◌≡◌, refl, Bool, true, false, not, ◌||◌, ℕ, ◌-◌, ◌*◌, ◌/◌, ◌≤◌, ◌<◌, ltb, length, Some}
use mathlib.Core.List.{List, Memᴰ}
use Rattle.std.proofs.Common.{mul-le-mul_right, arith, ltb-true, length-append}
use Rattle.base.specs.Depth.{supported}
use Rattle.base.specs.First.{found, first_is}
use Rattle.base.specs.Outcome.{Outcome, accepted, refused, refuse}
use Rattle.bad_words.specs.BadWord.{bad_cell}
use Rattle.decided.specs.RunsLaws.{Small, runs_small, runs-count}
use Rattle.decided.specs.declared.EdgeRun.{EdgeRun}
use Rattle.decisions.specs.Decision.{levelless}
use Rattle.geometry.specs.Frame.{bad_subsampling, bad_frame_size, bad_start, rows_from, cells_from}
use Rattle.faults.specs.Faults.{numbers_refused}
use Rattle.pass_edges.specs.PassEdges.{pass_of, edge_count}
use Rattle.pass_edges.specs.PassEdgesLaws.{edge_count_small}
use Rattle.sheet_header.specs.SheetHeaderLaws.{header_small, header_narrow}
use Rattle.sheet_lines.specs.LineLaws.{first_length, lines-length, refusal_length}
use Rattle.sheet_lines.specs.SheetLines.{first_line, run_lines, refusal_line}
use Rattle.sheet_header.specs.SheetHeader.{header_of, bad_header}
use Rattle.sheet_header.specs.declared.SheetHeader.{SheetHeader}
use Rattle.sheet.specs.Sheet.{sheet_setting, cells_runs, cells_of, sheet_runs, printed, run_sheet}
use Rattle.sheet.specs.SheetAnswers.{answer_of}

-- ---- what test 17 leaves: a row of at most 8,192 cells

pub cells_few : (row cols rows : ℕ) → cols ≤ 1024 → cells_from row cols rows ≤ 8192
cells_few row cols rows h = let eight : rows_from row rows ≤ 8 = omega arith in omega (arith, mul-le-mul_right cols eight)

-- ---- outcomes: runs are few and small, and so are the numbers of a refusal

abbrev pub Tame : Outcome (List EdgeRun) → Type 0
Tame (accepted l) = (length l ≤ 128) × ((a : EdgeRun) → Memᴰ a l → Small a)
Tame (refused number place) = (number < 100) × (place < 10000)

refuse_tame : (test : Bool) (number place : ℕ) (after : Outcome (List EdgeRun))
    → (test ≡ true → Tame (refused number place)) → (test ≡ false → Tame after) → Tame (refuse test number place after)
refuse_tame true number place after p q = p refl
refuse_tame false number place after p q = q refl

-- most refusals have no place
no_place : (test : Bool) (number : ℕ) (after : Outcome (List EdgeRun)) → number < 100 → (test ≡ false → Tame after) → Tame (refuse test number 0 after)
no_place test number after h q = refuse_tame test number 0 after (λ e. (h, omega arith)) q

numbers_tame : (sharpness : ℕ) (known : Bool) (sub_x sub_y mi_cols mi_rows row col plane pass cells_lent : ℕ) (after : Outcome (List EdgeRun)) → Tame after
    → Tame (numbers_refused sharpness known sub_x sub_y mi_cols mi_rows row col plane pass cells_lent after)
numbers_tame sharpness known sub_x sub_y mi_cols mi_rows row col plane pass cells_lent after tame =
    no_place (ltb 7 sharpness) 1 _ (omega arith) (λ t1.
    no_place (not known) 2 _ (omega arith) (λ t2.
    no_place (bad_subsampling sub_x sub_y) 3 _ (omega arith) (λ t3.
    no_place (bad_frame_size mi_cols mi_rows) 4 _ (omega arith) (λ t4.
    no_place (bad_start row mi_rows) 5 _ (omega arith) (λ t5.
    no_place (ltb cells_lent (cells_from row mi_cols mi_rows)) 7 _ (omega arith) (λ t7.
    no_place (ltb 2 plane || ltb 1 pass) 9 _ (omega arith) (λ t9.
    no_place (bad_start col mi_cols) 10 _ (omega arith) (λ t10. tame))))))))

cells_tame : (h : SheetHeader) (cells : List ℕ) → h.cols ≤ 1024 → Tame (cells_runs h cells)
unfolding cells_runs
cells_tame h cells narrow =
    let t = sheet_setting h cells in
    let pass = pass_of h.pass in
    let n = cells_from h.row h.cols h.rows in
    let level = levelless t.superblock pass t.chroma cells in
    let edges = edge_count t.superblock pass in
    refuse_tame (found (bad_cell cells) n) 11 _ _
    (λ e. (omega arith, omega (arith, (first_is (bad_cell cells) n e).to, cells_few h.row h.cols h.rows narrow))) (λ t11.
    refuse_tame (found level (64 * edges)) 14 _ _
    (λ e. (omega arith, omega (arith, (first_is level (64 * edges) e).to, edge_count_small t.superblock pass)))
    (λ t14. (runs-count t pass, runs_small t pass)))

-- ---- sheets

pub sheet_tame : (bytes : List ℕ) → Tame (sheet_runs bytes)
unfolding sheet_runs
sheet_tame bytes =
    let h = header_of bytes in
    no_place (ltb (length bytes) 8) 7 _ (omega arith) (λ t7.
    no_place (bad_header h) 17 _ (omega arith) (λ t17.
    numbers_tame h.sharpness (supported h.depth) h.subx h.suby h.cols h.rows h.row h.col h.plane h.pass ((length bytes - 8) / 4) _
    (cells_tame h (cells_of bytes) (header_narrow h t17))))

pub sheet_fits : (bytes : List ℕ) → length (run_sheet bytes) ≤ 2048
unfolding run_sheet
sheet_fits bytes = by (sheet_runs bytes) (sheet_tame bytes)
  where
    by : (o : Outcome (List EdgeRun)) → Tame o → length (printed (header_of bytes) o) ≤ 2048
    by (accepted l) tame =
        omega (arith, length-append (first_line (header_of bytes)) (run_lines l), first_length (header_of bytes) (header_small bytes), lines-length l tame.1)
    by (refused number place) tame = omega (arith, refusal_length number place tame.0 tame.1)

pub sheet_some : (bytes : List ℕ) → 0 < length (run_sheet bytes)
unfolding run_sheet first_line refusal_line
sheet_some bytes = by (sheet_runs bytes)
  where
    by : (o : Outcome (List EdgeRun)) → 0 < length (printed (header_of bytes) o)
    by (accepted l) = omega arith
    by (refused number place) = omega arith

-- what is written lies within the buffer
pub answer_fits : (bytes out : List ℕ) (count : ℕ) → Some count ≡ answer_of bytes out → count ≤ length out
unfolding answer_of
answer_fits bytes out count e = by (ltb 2047 (length out)) refl
  where
    by : (b : Bool) → ltb 2047 (length out) ≡ b → count ≤ length out
    by true t = let same : count ≡ length (run_sheet bytes) = cc (rw t at e) in omega (arith, ltb-true 2047 (length out) t, sheet_fits bytes)
    by false t = absurd (let z : ◌≡◌ {A = ℕ} 0 1 = cc (rw t at e) in omega arith)
