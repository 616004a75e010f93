use Rattle.std.proofs.Common.{◌≤◌}
use Rattle.vectors.proofs.replay.tally_of.Given as goal

abbrev pub invariant-loop-records : goal.invariant-loop-records
invariant-loop-records g l = l.equal ≤ l.records
