use Rattle.std.proofs.Common.{◌≡◌, ◌-◌}
use Rattle.decided.specs.CellsLeft.{Walking, cells_left}
use Rattle.decided.proofs.key_cells.KeyCellsIterator.next.Given as goal

abbrev pub invariant-loop-at : goal.invariant-loop-at
invariant-loop-at l = Walking l.self × (cells_left l.self ≡ cells_left l.initial.self)

abbrev pub decreases-loop-at : goal.decreases-loop-at
decreases-loop-at l = l.self.cells.end - l.self.cells.start
