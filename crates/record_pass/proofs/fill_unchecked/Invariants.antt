use Rattle.std.proofs.Common.{◌≡◌}
use Rattle.base.specs.Filled.{filled}
use Rattle.record_pass.specs.RecordPass.{record_word}
use Rattle.record_pass.proofs.fill_unchecked.Given as goal

abbrev pub invariant-loop-i : goal.invariant-loop-i
invariant-loop-i l = l.words ≡ filled (record_word l.records) 0 l.i l.initial.words
