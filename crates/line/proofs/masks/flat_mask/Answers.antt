use Rattle.std.proofs.Common.{refl}
use Rattle.line.specs.Masks.{flat_at, flat_mask}
use Rattle.line.proofs.masks.flat_mask.Goals as goal

pub returns : goal.returns
unfolding flat_mask flat_at
returns g c = rw (c.flat_at-3.ensures, c.flat_at-2.ensures, c.flat_at.ensures) refl
