use Rattle.std.proofs.Common.{arith, length-append}
use Rattle.text.specs.PutsLaws.{puts_then}
use Rattle.text.specs.Text.{decimal}
use Rattle.text.specs.TextLaws.{decimal-length}
use Rattle.sheet_lines.proofs.put_named.Goals as goal

pub returns : goal.returns
returns c =
    let a = c.args in
    let all = puts_then a.word.now (decimal a.n) c.put_bytes_unchecked.ensures c.put_decimal_unchecked.ensures in
    (all, omega (arith, all.put.1, length-append a.word.now (decimal a.n), decimal-length 3 a.n (omega arith)))
