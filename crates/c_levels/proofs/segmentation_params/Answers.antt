use Rattle.std.proofs.Common.{◌≡◌, refl, None, rules}
use Rattle.base.specs.FromFn.{from_fn_values}
use Rattle.c_levels.specs.LevelEntry.{delta_at}
use Rattle.c_levels.proofs.segmentation_params.Goals as goal

pub returns : goal.returns
returns c =
    let flags = c.args.flags.now in
    let numbers = c.args.numbers.now in
    let all = from_fn_values _ (delta_at numbers flags) (λ p. (p.0.now ≡ flags) × (p.1.now ≡ numbers)) (λ p q i y h k. search rules) _ c.from_fn.result 32 None (refl, refl) c.from_fn.ensures.items in
    rw all
