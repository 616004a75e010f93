use Rattle.std.proofs.lemmas.List.{map-id}
use Rattle.line.specs.SampleFiltering.{sample_filtering}
use Rattle.tap_places.specs.TurnLaws.{in_turn_next}
use Rattle.window.specs.Window.{run_of}
use Rattle.runs.proofs.border.filter_border.Goals as goal

pub loop-k-preserved : goal.loop-k-preserved
loop-k-preserved c =
    let a = c.args in
    let p = c.position_unchecked-p.ensures in
    in_turn_next (run_of a.g a.start.pass a.start.x a.start.y (sample_filtering a.f.depth.bits a.size a.f.limit a.f.blimit a.f.thresh)) c.loop-k.k _ _ _
    (rw (p.0, p.1, p.2) at simp map-id at c.filter_position_unchecked.ensures) c.loop-k.invariant
