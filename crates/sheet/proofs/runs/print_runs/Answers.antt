use Rattle.std.proofs.Common.{arith, ap, ◌∙◌, length}
use Rattle.decided.proofs.AllRuns.{few_runs}
use Rattle.decided.specs.RunsLeft.{runs_left}
use Rattle.sheet_lines.specs.SheetLines.{run_line, run_lines}
use Rattle.text.specs.PutsLaws.{puts_none, puts_then}
use Rattle.sheet.proofs.runs.print_runs.Goals as goal

pub loop-a-init : goal.loop-a-init
loop-a-init c =
    let a = c.args in
    let few = ap length (ap runs_left c.into_iter-a-iterator.ensures.into_iter_gives ∙ c.new-a-items.ensures.1) in (
      rw c.into_iter-a-iterator.ensures.into_iter_gives c.new-a-items.ensures.0,
      omega (arith, few, few_runs a.s a.pass a.keys.now.outer a.keys.now.inner),
      λ after p. p,
    )

pub loop-a-preserved : goal.loop-a-preserved
unfolding run_lines
loop-a-preserved c =
    let before = c.loop-a.invariant in
    let steps = c.in-Some.ensures.steps in
    let line = c.print_run_unchecked.ensures in
    let rest = run_lines (runs_left c.next.new.self) in (
      c.in-Some.ensures.goes.keeps,
      omega (arith, line.1, ap length steps.0, before.1),
      λ after p. (rw steps.0 at before.2) after (puts_then (run_line c.in-Some.a.of) rest line.0 p),
    )

pub returns : goal.returns
unfolding run_lines
returns c =
    let loop = c.loop-a in
    let all = ap runs_left c.into_iter-a-iterator.ensures.into_iter_gives ∙ c.new-a-items.ensures.1 in
    (rw (c.in-None.ensures.steps.0.0, all) at loop.invariant.2) loop.text (puts_none loop.text)
