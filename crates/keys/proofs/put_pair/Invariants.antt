use Rattle.std.proofs.Common.{◌≡◌, ◌*◌}
use Rattle.base.specs.Filled.{filled}
use Rattle.base.specs.First.{found}
use Rattle.keys.specs.PlainKeys.{key_by, lack_from}
use Rattle.keys.proofs.put_pair.Given as goal

abbrev pub invariant-loop-c : goal.invariant-loop-c
invariant-loop-c l =
    (l.outer ≡ filled (key_by l.n l.t.of.log l.t.of.tx l.words) (8 * l.e) l.c l.initial.outer)
    × (l.inner ≡ filled (key_by l.m l.t.of.log l.t.of.tx l.words) (8 * l.e) l.c l.initial.inner)
    × (l.lacking ≡ found (lack_from l.n l.m l.t.of.log l.t.of.tx l.words (8 * l.e)) l.c)
