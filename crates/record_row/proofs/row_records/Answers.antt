use Rattle.std.proofs.Common.{◌≡◌, refl, sym, ap, subst, ◌∙◌, ℕ, min, List, length, take, replicate, arith, length-take-le, take_all}
use Rattle.std.proofs.lemmas.Result.{err_from_is_err_and}
use Rattle.base.specs.Fault.{number_of, place_of}
use Rattle.base.specs.Outcome.{returned, Answers}
use Rattle.base.specs.declared.fault.Fault.{Fault}
use Rattle.cell_records.specs.declared.CellRecord.{CellRecord}
use Rattle.row.specs.Row.{ModeInfo}
use Rattle.row.specs.declared.numbers.RowNumbers.{RowNumbers}
use Rattle.record_row.specs.RecordRow.{stored, row_with, cells_in, as_records, zeros, row_records}
use Rattle.record_row.specs.RecordRowLaws.{accepted_as, kept, passed_row, replaced, stored_part, take-replicate}
use Rattle.record_row.proofs.row_records.Goals as goal

module _ (m : ModeInfo) (levels : List ℕ) (p : RowNumbers) (records : List CellRecord) (lent : ℕ) (e : lent ≡ min (length records) 65536) where
  abbrev words : List ℕ
  words = take lent (replicate 65536 0)

  words_is : words ≡ zeros (length records)
  words_is = take-replicate lent 65536 (omega (arith, e)) ∙ ap (λ (k : ℕ). replicate k 0) e

  refusal : (f : Fault) → record { number = number_of f; place = place_of f } ≡ returned (row_with m levels p words) → Answers (row_records m levels p records) (record { number = number_of f; place = place_of f }) records records
  unfolding row_records
  refusal f s =
      subst (λ (l : List ℕ). Answers (as_records (row_with m levels p l) (cells_in p) records) (record { number = number_of f; place = place_of f }) records records) words_is
      (kept m levels p _ f records s)

  row_stored : (cells : List ℕ) (count : ℕ) (after : List CellRecord) → length cells ≡ length words → count ≡ cells_in p
      → Answers (row_with m levels p words) accepted_as words cells → after ≡ stored (take count cells) (length (take count cells)) records
      → Answers (row_records m levels p records) accepted_as records after
  unfolding row_records
  row_stored cells count after h g s t =
      let d = passed_row m levels p words s.0 in
      let n : length (take count cells) ≡ count = length-take-le count cells (omega (arith, d.lent, h, g)) in
      let front : after ≡ stored cells (cells_in p) records = rw (t, n, sym (stored_part count cells count records (omega arith)), g) refl in
      subst (λ (l : List ℕ). Answers (as_records (row_with m levels p l) (cells_in p) records) accepted_as records after) words_is
      (rw front (replaced m levels p _ _ records cells refl (s.0, take_all (length words) cells (omega (arith, h)) ∙ s.1)))

pub returns-in_err-row_cells : goal.returns-in_err-row_cells
returns-in_err-row_cells c =
    let q = err_from_is_err_and c.from_residual.result c.from_residual.ensures.1 in
    rw (q.1, q.2) (refusal _ _ c.args.numbers c.args.records.now c.min-lent.result c.min-lent.ensures _ c.in_err-row_cells.ensures.0)

pub cell_count_unchecked-count-requires : goal.cell_count_unchecked-count-requires
cell_count_unchecked-count-requires c =
    let d = passed_row _ _ c.args.numbers _ c.in_ok-row_cells.ensures.0 in (d.starts, d.narrow)

pub slice_bounds-store_records_unchecked-end : goal.slice_bounds-store_records_unchecked-end
slice_bounds-store_records_unchecked-end c =
    let d = passed_row _ _ c.args.numbers _ c.in_ok-row_cells.ensures.0 in
    sym (length-take-le _ _ (omega (arith, d.lent, c.row_cells.auto.cells, c.cell_count_unchecked-count.ensures)))

pub returns : goal.returns
returns c =
    row_stored _ _ c.args.numbers c.args.records.now c.min-lent.result c.min-lent.ensures c.row_cells.new.cells c.cell_count_unchecked-count.result _ c.row_cells.auto.cells c.cell_count_unchecked-count.ensures c.in_ok-row_cells.ensures c.store_records_unchecked.ensures
