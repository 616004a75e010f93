use Rattle.std.proofs.Common.{◌≡◌, length}
use Rattle.decided.specs.CellsLeft.{Walking, cells_left}
use Rattle.decided.specs.RunsLeft.{runs_left}
use Rattle.decided.proofs.pass_runs.PassRunsIterator.next.Given as goal

abbrev pub invariant-loop-cell : goal.invariant-loop-cell
invariant-loop-cell l = Walking l.self.cells × (runs_left l.self ≡ runs_left l.initial.self)

abbrev pub decreases-loop-cell : goal.decreases-loop-cell
decreases-loop-cell l = length (cells_left l.self.cells)
