use Rattle.std.proofs.Common.{refl}
use Rattle.line.specs.Masks.{filter_mask}
use Rattle.line.proofs.masks.filter_mask_unchecked.Goals as goal

pub returns : goal.returns
unfolding filter_mask
returns g c =
    rw (c.small_step.ensures, c.near-6.ensures, c.near-5.ensures, c.near-4.ensures, c.near-3.ensures, c.near-2.ensures, c.near.ensures) refl
