use Rattle.std.proofs.Common.{take}
use Rattle.text.specs.Puts.{Puts}
use Rattle.text.proofs.Text.put_bytes_unchecked.Given as goal

abbrev pub invariant-loop-byte : goal.invariant-loop-byte
invariant-loop-byte l = Puts (take l.byte-index l.text) l.initial.self l.self
