use Rattle.std.proofs.Common.{arith}
use Rattle.text.specs.PutsLaws.{puts_none, puts_next}
use Rattle.text.proofs.Text.put_bytes_unchecked.Goals as goal

pub loop-byte-init : goal.loop-byte-init
loop-byte-init c = puts_none _

pub loop-byte-preserved : goal.loop-byte-preserved
loop-byte-preserved c =
    let l = c.loop-byte in puts_next c.args.text.now l.byte-index (omega arith) l.invariant c.put_byte_unchecked.ensures
