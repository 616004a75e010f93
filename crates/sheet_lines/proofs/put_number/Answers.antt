use Rattle.std.proofs.Common.{[], ◌∷◌, arith, length-append}
use Rattle.text.specs.PutsLaws.{puts_then}
use Rattle.text.specs.Text.{decimal}
use Rattle.text.specs.TextLaws.{decimal-length}
use Rattle.sheet_lines.proofs.put_number.Goals as goal

pub put_byte_unchecked-requires : goal.put_byte_unchecked-requires
put_byte_unchecked-requires c = omega (arith, c.put_decimal_unchecked.ensures.put.1, decimal-length 1 c.args.n (omega arith))

pub returns : goal.returns
returns c =
    let a = c.args in
    let all = puts_then (decimal a.n) (a.byte ∷ []) c.put_decimal_unchecked.ensures c.put_byte_unchecked.ensures in
    (all, omega (arith, all.put.1, length-append (decimal a.n) (a.byte ∷ []), decimal-length 1 a.n (omega arith)))
