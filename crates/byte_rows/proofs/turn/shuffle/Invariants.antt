use Rattle.byte_rows.specs.Turn.{TurnedTo}
use Rattle.byte_rows.proofs.turn.shuffle.Given as goal

abbrev pub invariant-loop-i : goal.invariant-loop-i
invariant-loop-i l = TurnedTo l.i l.to l.from 2 l.half l.t l.u
