use Rattle.std.proofs.Common.{◌+◌, ◌*◌, ◌≤◌, length}
use Rattle.decided.specs.CellsLeft.{Walking}
use Rattle.decided.specs.RunsLeft.{runs_left}
use Rattle.sheet_lines.specs.SheetLines.{run_lines}
use Rattle.text.specs.Puts.{Puts}
use Rattle.text.specs.declared.Text.{Text}
use Rattle.sheet.proofs.runs.print_runs.Given as goal

-- with the lines that are still to come, all are written
abbrev pub invariant-loop-a : goal.invariant-loop-a
invariant-loop-a l =
    let left = runs_left l.a-iterator in
    Walking l.a-iterator.cells × (l.text.at + 15 * length left ≤ 2944)
    × ((after : Text) → Puts (run_lines left) l.text after → Puts (run_lines (runs_left l.initial.a-iterator)) l.initial.text after)
