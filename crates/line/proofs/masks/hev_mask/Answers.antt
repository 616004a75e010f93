use Rattle.std.proofs.Common.{refl, ◌≡◌, ⊎_elim, not, ltb, leb, ℕ, lt-ltb, le-ltb}
use Rattle.std.proofs.lemmas.Bool.{lt-leb, le-leb}
use Rattle.base.specs.NotationLaws.{split}
use Rattle.line.specs.Masks.{hev_mask}
use Rattle.line.proofs.masks.hev_mask.Goals as goal

above : (d limit : ℕ) → not (leb d limit) ≡ ltb limit d
above d limit =
    ⊎_elim (λ h. rw (lt-ltb limit d h, lt-leb d limit h)) (λ h. rw (le-ltb limit d h, le-leb d limit h)) (split limit d)

pub returns : goal.returns
unfolding hev_mask
returns g c = rw (c.near-2.ensures, c.near.ensures, above, above) refl
