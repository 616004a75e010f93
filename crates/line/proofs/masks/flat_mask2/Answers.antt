use Rattle.std.proofs.Common.{refl}
use Rattle.line.specs.Masks.{flat_at, flat_mask2}
use Rattle.line.proofs.masks.flat_mask2.Goals as goal

pub returns : goal.returns
unfolding flat_mask2 flat_at
returns g c =
    rw (c.flat_at-4.ensures, c.flat_at-3.ensures, c.flat_at-2.ensures, c.flat_at.ensures) refl
