-- The runs of a pass, one after the other: which are still to come, while one is pending.
-- Assumes nothing.
use Rattle.std.specs.Prelude.{◌≡◌, refl, true, false, ◌<◌, List, [], ◌∷◌, Option, Some, None, IfSome}
use Rattle.std.proofs.Common.{arith, lt-ltb}
use Rattle.std.proofs.lemmas.Grind.{common_steps}
use Rattle.std.specs.Iterator.{YieldsFirstBy}
use Rattle.order.specs.Grid.{select}
use Rattle.decided.specs.CellsLeft.{cells_left}
use Rattle.decided.specs.Runs.{joins, joined, joined_from, longer, run_filters}
use Rattle.decided.specs.declared.EdgeRun.{EdgeRun}
use Rattle.decided.specs.declared.pass_runs.PassRuns.{PassRuns}
use Rattle.decided.specs.declared.small_run.SmallRun.{SmallRun}

-- the pending run, if there is one, and runs behind it, joined
unfoldable pub joined_on : Option SmallRun → List EdgeRun → List EdgeRun
joined_on None l = joined l
joined_on (Some a) l = joined_from a.of l

-- the pending run and the cells that were not walked, joined
unfoldable pub runs_left : PassRuns → List EdgeRun
runs_left w = select run_filters (joined_on w.pending (cells_left w.cells))

-- a run that is given filters
abbrev pub GivesRun : PassRuns → Option SmallRun → PassRuns → Type 0
GivesRun w r v = YieldsFirstBy (λ a. a.of) runs_left w r v × IfSome r (λ a. 0 < a.of.level)

-- behind the last cell the pending run is left
pub runs_none : (w : PassRuns) → cells_left w.cells ≡ [] → w.pending ≡ None → runs_left w ≡ []
unfolding runs_left joined_on
runs_none w end none = grind (arith, common_steps)

pub runs_last : (w : PassRuns) (a : SmallRun) → cells_left w.cells ≡ [] → w.pending ≡ Some a → 0 < a.of.level → runs_left w ≡ a.of ∷ []
unfolding runs_left joined_on joined_from
runs_last w a end some on = grind (arith, common_steps)

-- the next cell b is the pending run if there is none, and else joins it or closes it
module _ (w v : PassRuns) (b : SmallRun) (next : cells_left w.cells ≡ b.of ∷ cells_left v.cells) where
  pub runs_start : w.pending ≡ None → v.pending ≡ Some b → runs_left w ≡ runs_left v
  unfolding runs_left joined_on
  runs_start none new = rw (next, none, new) refl

  pub runs_join : (a c : SmallRun) → w.pending ≡ Some a → v.pending ≡ Some c → joins a.of b.of ≡ true → c.of ≡ longer a.of b.of.count → runs_left w ≡ runs_left v
  unfolding runs_left joined_on joined_from
  runs_join a c old new on is = rw (next, old, new, on, is) refl

  pub runs_close : (a : SmallRun) → w.pending ≡ Some a → v.pending ≡ Some b → joins a.of b.of ≡ false → 0 < a.of.level → runs_left w ≡ a.of ∷ runs_left v
  unfolding runs_left joined_on joined_from
  runs_close a old new off on = rw (next, old, new, off, lt-ltb 0 a.of.level on) refl
