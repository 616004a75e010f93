use Rattle.std.proofs.Common.{arith}
use Rattle.sheet_lines.specs.SheetLines.{first_line}
use Rattle.text.specs.PutsLaws.{puts_then}
use Rattle.sheet_lines.proofs.print_first_unchecked.Goals as goal

pub returns : goal.returns
unfolding first_line
returns c =
    let pass = c.put_named.ensures in
    let plane = c.put_named-2.ensures in
    let row = c.put_named-3.ensures in
    let col = c.put_named-4.ensures in
    let end = c.put_byte_unchecked.ensures in (
      rw (← c.from.ensures, ← c.from-2.ensures) (puts_then _ _ (puts_then _ _ (puts_then _ _ (puts_then _ _ pass.0 plane.0) row.0) col.0) end),
      omega (arith, pass.1, plane.1, row.1, col.1, end.put.1),
    )
