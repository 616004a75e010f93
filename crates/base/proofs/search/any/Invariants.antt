use Rattle.std.proofs.Common.{◌≡◌}
use Rattle.base.specs.First.{found}
use Rattle.base.proofs.search.any.Given as goal

abbrev pub invariant-loop-k : goal.invariant-loop-k
invariant-loop-k g l = l.any ≡ found g.holds l.k
