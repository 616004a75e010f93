use Rattle.sheet_lines.specs.SheetLines.{refusal_line}
use Rattle.text.specs.PutsLaws.{puts_then}
use Rattle.sheet_lines.proofs.print_refusal_unchecked.Goals as goal

pub returns : goal.returns
unfolding refusal_line
returns c = puts_then _ _ (puts_then _ _ c.put_named.ensures.0 c.put_named-2.ensures.0) c.put_byte_unchecked.ensures
