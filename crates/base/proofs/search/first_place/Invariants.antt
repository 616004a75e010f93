use Rattle.std.proofs.Common.{◌≡◌, ◌-◌}
use Rattle.base.specs.First.{first_from, first}
use Rattle.base.proofs.search.first_place.Given as goal

abbrev pub ghost-any : goal.ghost-any
ghost-any g a = g.holds

abbrev pub invariant-loop-k : goal.invariant-loop-k
invariant-loop-k g l = first_from g.holds l.k (l.n - l.k) ≡ first g.holds l.n
