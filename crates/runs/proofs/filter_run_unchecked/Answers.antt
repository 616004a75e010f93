use Rattle.std.proofs.Common.{sym, ◌∙◌}
use Rattle.line.specs.SampleFiltering.{sample_filtering}
use Rattle.window.specs.InsideRun.{run_plain}
use Rattle.runs.specs.RunsLaws.{inside_lanes}
use Rattle.runs.proofs.filter_run_unchecked.Goals as goal

pub filter_lane_run_unchecked-requires : goal.filter_lane_run_unchecked-requires
filter_lane_run_unchecked-requires c =
    let a = c.args in
    let p = c.requires in
    let inside = sym c.is_inside_unchecked.ensures ∙ c.if-is_inside_unchecked.true in
    let made = c.taps_unchecked-run.ensures in
    rw (made.0, made.1, made.2, made.3)
    (inside_lanes a.g a.start.pass a.start.x a.start.y a.n a.samples.now p.0 inside p.1 p.2)

pub returns-then-is_inside_unchecked : goal.returns-then-is_inside_unchecked
returns-then-is_inside_unchecked c =
    let a = c.args in
    let inside = sym c.is_inside_unchecked.ensures ∙ c.if-is_inside_unchecked.true in
    let made = c.taps_unchecked-run.ensures in
    (rw (made.0, made.1, made.2, made.3) at c.filter_lane_run_unchecked.ensures)
    ∙ run_plain a.g a.start.pass a.start.x a.start.y a.n (sample_filtering a.f.depth.bits a.size a.f.limit a.f.blimit a.f.thresh) a.samples.now inside
