use Rattle.std.proofs.Common.{◌≡◌, refl, ◌∙◌, ap, ◌++◌, drop, List, ℕ, get_or, arith, rules, take_all}
use Rattle.base.specs.FromFn.{from_fn_filled}
use Rattle.byte_line.proofs.Taken.{taken}
use Rattle.byte_line.proofs.store_narrowed.Goals as goal

pub returns : goal.returns
returns c =
    let wide = c.args.wide.now in
    let narrow = from_fn_filled _ (λ k. get_or wide k 0) (λ p. p.0.now ≡ wide) (λ p q i y h k. search rules) _ _ _ refl c.from_fn-narrow.ensures.items in
    ap (λ (l : List ℕ). l ++ drop 16 c.args.t.now) (c.copy_from_slice.ensures.after ∙ narrow ∙ taken wide 16 (omega arith) ∙ take_all 16 wide (omega arith))
