use Rattle.std.proofs.Common.{refl, sym, ◌∙◌}
use Rattle.decided.specs.RunsLeft.{runs_start, runs_join}
use Rattle.decided.proofs.pass_runs.PassRunsIterator.next.Goals as goal

pub loop-cell-preserved-then-joins : goal.loop-cell-preserved-then-joins
loop-cell-preserved-then-joins c = (
  c.in-Some.ensures.goes.keeps,
  sym (runs_join c.loop-cell.self _ c.in-Some.cell c.in-Some.ensures.steps.0 c.in-Some-pending.run' _ c.in-Some-pending.is refl (sym c.joins.ensures ∙ c.if-joins.true) c.longer_unchecked.ensures) ∙ c.loop-cell.invariant.1,
)

pub loop-cell-preserved : goal.loop-cell-preserved
loop-cell-preserved c = (
  c.in-Some.ensures.goes.keeps,
  sym (runs_start c.loop-cell.self _ c.in-Some.cell c.in-Some.ensures.steps.0 (sym c.replace.ensures.value ∙ c.in_default-replace.is) c.replace.ensures.after) ∙ c.loop-cell.invariant.1,
)
