use Rattle.std.proofs.Common.{◌≡◌, ◌*◌}
use Rattle.base.specs.Filled.{filled}
use Rattle.base.specs.First.{found}
use Rattle.keys.specs.PlainKeys.{plain_key, plain_lack}
use Rattle.keys.proofs.put_keys.Given as goal

abbrev pub invariant-loop-e : goal.invariant-loop-e
invariant-loop-e l =
    (l.outer ≡ filled (plain_key l.t.of l.words 0) 0 (8 * l.e) l.initial.outer)
    × (l.inner ≡ filled (plain_key l.t.of l.words 1) 0 (8 * l.e) l.initial.inner)
    × (l.lacking ≡ found (plain_lack l.t.of l.words) (8 * l.e))
