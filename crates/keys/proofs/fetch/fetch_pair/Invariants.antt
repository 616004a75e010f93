use Rattle.std.proofs.Common.{◌≡◌, ◌*◌}
use Rattle.base.specs.Filled.{filled}
use Rattle.keys.specs.PlainKeys.{word_from}
use Rattle.keys.proofs.fetch.fetch_pair.Given as goal

abbrev pub invariant-loop-c : goal.invariant-loop-c
invariant-loop-c g l = l.words ≡ filled (word_from l.base l.t.of.paired l.t.of.along (g.C.Words.words l.cells)) (8 * l.e) l.c l.initial.words
