use Rattle.std.proofs.Common.{◌≡◌, ◌*◌, false}
use Rattle.base.specs.First.{found}
use Rattle.window.specs.Window.{bad_sample}
use Rattle.window.proofs.first_bad_sample_unchecked.Given as goal

abbrev pub invariant-loop-row : goal.invariant-loop-row
invariant-loop-row l = found (bad_sample l.g l.bound l.samples) (l.row * l.g.width) ≡ false
