use Rattle.std.proofs.Common.{◌≡◌, refl, ◌∙◌, get_or, rules}
use Rattle.base.specs.FromFn.{from_fn_filled}
use Rattle.byte_line.proofs.Taken.{taken}
use Rattle.byte_line.proofs.widened.Goals as goal

pub returns : goal.returns
returns c =
    let t = c.args.t.now in
    from_fn_filled _ (λ k. get_or t k 0) (λ p. p.0.now ≡ t) (λ p q i y h k. search rules) _ _ _ refl c.from_fn.ensures.items
    ∙ taken t 16 c.requires
