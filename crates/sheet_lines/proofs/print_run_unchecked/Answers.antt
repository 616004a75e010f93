use Rattle.std.proofs.Common.{arith}
use Rattle.sheet_lines.specs.SheetLines.{run_line}
use Rattle.text.specs.PutsLaws.{puts_then}
use Rattle.sheet_lines.proofs.print_run_unchecked.Goals as goal

pub returns : goal.returns
unfolding run_line
returns c =
    let edge = c.put_number.ensures in
    let first = c.put_number-2.ensures in
    let count = c.put_number-3.ensures in
    let size = c.put_number-4.ensures in
    let level = c.put_number-5.ensures in (
      rw (← c.from.ensures, ← c.from-2.ensures) (puts_then _ _ (puts_then _ _ (puts_then _ _ (puts_then _ _ edge.0 first.0) count.0) size.0) level.0),
      omega (arith, edge.1, first.1, count.1, size.1, level.1),
    )
