use Rattle.std.proofs.Common.{◌≤◌, ℕ, List, length, arith}
use Rattle.base.specs.Outcome.{Outcome, accepted, refused, returned}
use Rattle.c_border.specs.BorderLaws.{crossed_as}
use Rattle.cell_records.specs.declared.CellRecord.{CellRecord}
use Rattle.record_row.specs.RecordRow.{row_with, cells_in, as_records, zeros, row_records}
use Rattle.row.specs.declared.numbers.RowNumbers.{RowNumbers}
use Rattle.row.specs.Row.{ModeInfo, mode_info}
use Rattle.row.specs.RowLaws.{row_place}
use Rattle.c_records.proofs.rows.springspade_row_records.Goals as goal

-- a refusal is passed on, so that its place is that of the row over words
place_in : (o : Outcome (List ℕ)) (n : ℕ) (records : List CellRecord) → (returned o).place ≤ 65536 → (returned (as_records o n records)).place ≤ 65536
place_in (accepted words) n records h = omega arith
place_in (refused number place) n records h = h

records_place : (m : ModeInfo) (levels : List ℕ) (p : RowNumbers) (records : List CellRecord) → (returned (row_records m levels p records)).place ≤ 65536
unfolding row_records
records_place m levels p records =
    let words : List ℕ = zeros (length records) in
    place_in (row_with m levels p words) (cells_in p) records (row_place m levels p.sharpness p.bit_depth p.sub_x p.sub_y p.mi_cols p.mi_rows p.mi_row words)

pub returns : goal.returns
returns c =
    let a = c.args in
    let e = c.row_records.ensures in
    let small = records_place (mode_info a.mi_sizes.now a.tx_sizes.now a.skips.now a.ref_frames.now a.y_modes.now a.segment_ids.now) a.levels.now a.numbers a.records.now in
    (crossed_as c.refusal_of.ensures e.0 (omega arith), e.1)
