use Rattle.std.proofs.Common.{◌≡◌, ◌*◌}
use Rattle.base.specs.Filled.{filled}
use Rattle.keys.specs.PlainKeys.{word_in}
use Rattle.keys.proofs.fetch.fetch.Given as goal

abbrev pub invariant-loop-e : goal.invariant-loop-e
invariant-loop-e g l = l.words ≡ filled (word_in l.t.of (g.C.Words.words l.cells)) 0 (8 * l.e) l.initial.words
