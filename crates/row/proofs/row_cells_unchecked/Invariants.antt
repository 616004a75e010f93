use Rattle.std.proofs.Common.{◌≡◌, length}
use Rattle.base.specs.Filled.{filled}
use Rattle.row.specs.Row.{word_at}
use Rattle.row.specs.RowLists.{lists_of}
use Rattle.row.proofs.row_cells_unchecked.Given as goal

abbrev pub invariant-loop-k : goal.invariant-loop-k
invariant-loop-k l =
    (length l.cells ≡ length l.initial.cells) × (l.cells ≡ filled (word_at (lists_of l.lists) l.levels l.subx l.suby) 0 l.k l.initial.cells)
