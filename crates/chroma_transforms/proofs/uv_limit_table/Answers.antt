use Rattle.std.proofs.Common.{rules, ◌≡◌}
use Rattle.base.specs.FromFn.{from_fn_filled}
use Rattle.chroma_transforms.specs.ChromaTransforms.{uv_limit}
use Rattle.chroma_transforms.proofs.uv_limit_table.Goals as goal

pub returns : goal.returns
returns c =
    from_fn_filled _ (uv_limit c.args.subx c.args.suby) (λ p. (p.0 ≡ c.args.subx) × (p.1 ≡ c.args.suby)) (λ p q i y h k. search rules) _ _ 13 (search rules) c.from_fn.ensures.items
