use Rattle.std.proofs.Common.{◌≡◌, ◌∙◌, ap, subst, ℕ, List, length, min, take, replicate, arith, length-take-le}
use Rattle.std.proofs.lemmas.List.{length-replicate}
use Rattle.base.specs.Filled.{filled}
use Rattle.base.specs.Outcome.{Outcome, Returned, Answers}
use Rattle.cell_records.specs.declared.CellRecord.{CellRecord}
use Rattle.geometry.specs.declared.pass_numbers.PassNumbers.{PassNumbers}
use Rattle.plane_window.specs.PlaneWindow.{pass_over}
use Rattle.window.specs.declared.WindowShape.{WindowShape}
use Rattle.record_pass.specs.RecordPass.{record_word, pass_records}
use Rattle.record_pass.specs.RecordPassLaws.{pass_lent}
use Rattle.record_pass.proofs.pass_records.Goals as goal

over_records : (g : WindowShape) (n : PassNumbers) (records : List CellRecord) (lent : ℕ) (words samples after : List ℕ) (r : Returned) → lent ≡ min (length records) 65536
    → words ≡ filled (record_word (take lent records)) 0 (length (take lent records)) (replicate 65536 0)
    → Answers (pass_over g n (take lent words) samples) r samples after → Answers (pass_records g n records samples) r samples after
over_records g n records lent words samples after r e w s =
    let front = w ∙ ap (λ (k : ℕ). filled (record_word (take lent records)) 0 k (replicate 65536 0)) (length-take-le lent records (omega (arith, e))) in
    subst (λ (o : Outcome (List ℕ)). Answers o r samples after)
    (ap (λ (l : List ℕ). pass_over g n (take lent l) samples) front ∙ pass_lent g n records lent (replicate 65536 0) samples e (length-replicate {A = ℕ} 65536 0)) s

pub returns : goal.returns
returns c =
    over_records c.args.g c.args.n c.args.records.now c.min-lent.result c.fill_unchecked.new.words c.args.samples.now _ _ c.min-lent.ensures c.fill_unchecked.ensures c.superblock_loop_filter_cells.ensures
