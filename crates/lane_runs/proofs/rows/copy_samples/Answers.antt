use Rattle.std.proofs.Common.{◌+◌, ◌∙◌, ap, arith, slice_set}
use Rattle.lane_runs.specs.RowCopiesLaws.{row_more}
use Rattle.lane_runs.proofs.rows.copy_samples.Goals as goal

pub loop-k-preserved : goal.loop-k-preserved
loop-k-preserved g c =
    let a = c.args in
    let z = c.index-from-place.result in
    ap (λ x. slice_set c.loop-k.to (a.at + c.loop-k.k) x) c.index-from-place.is
    ∙ (rw c.loop-k.invariant (row_more a.from.now a.place c.loop-k.k a.at a.to.now z (omega (arith, c.requires.1, c.loop-k-test.true)) (omega (arith, c.requires.0, c.loop-k-test.true))))
