use Rattle.std.proofs.Common.{ap, sym, ◌∙◌, List}
use Rattle.decided.specs.RunsLeft.{runs_left}
use Rattle.decided.specs.declared.EdgeRun.{EdgeRun}
use Rattle.pass.specs.WorkLaws.{after_run, filtered_on, runs_filtered, runs_next, runs_none}
use Rattle.pass.proofs.edge.filter_keys.Goals as goal

pub loop-small-preserved : goal.loop-small-preserved
loop-small-preserved c =
    let a = c.args in
    let loop = c.loop-small in
    let run = c.in-Some.small.of in
    let steps = c.in-Some.ensures.steps in
    let f = c.new-f.ensures in
    let rest = runs_left c.next.new.self in
    let filtered = filtered_on a.g a.t.s.of a.t.pass a.t.sharpness.level a.t.depth.bits run steps.1 _ _ _
    c.from-start.ensures.1 c.from-start.ensures.2 c.strength-strength.ensures _ _ (rw (c.from-start.ensures.0, f.0, f.1, f.2, f.3) at c.filter_run_unchecked.ensures) in
    let on = after_run a.t.s.of a.t.pass a.t.sharpness.level a.t.depth.bits run loop.invariant.1 loop.invariant.2 a.t.depth.known filtered in (
      c.in-Some.ensures.goes.keeps,
      on.0,
      on.1,
      ap (runs_filtered a.g a.t.s.of a.t.pass a.t.sharpness.level a.t.depth.bits rest) filtered
          ∙ runs_next a.g a.t.s.of a.t.pass a.t.sharpness.level a.t.depth.bits run rest loop.samples
          ∙ ap (λ (l : List EdgeRun). runs_filtered a.g a.t.s.of a.t.pass a.t.sharpness.level a.t.depth.bits l loop.samples) (sym steps.0)
          ∙ loop.invariant.3,
    )

pub returns : goal.returns
returns c =
    let a = c.args in
    let loop = c.loop-small in
    let all = ap runs_left c.into_iter-small-iterator.ensures.into_iter_gives ∙ c.new-small-items.ensures.1 in
    runs_none a.g a.t.s.of a.t.pass a.t.sharpness.level a.t.depth.bits loop.samples
    ∙ ap (λ (l : List EdgeRun). runs_filtered a.g a.t.s.of a.t.pass a.t.sharpness.level a.t.depth.bits l loop.samples) (sym c.in-None.ensures.steps.0.0)
    ∙ loop.invariant.3
    ∙ ap (λ (l : List EdgeRun). runs_filtered a.g a.t.s.of a.t.pass a.t.sharpness.level a.t.depth.bits l a.samples.now) all
