use Rattle.std.proofs.Common.{ap, ◌∙◌, sym, ◌++◌, drop, List, ℕ, arith, length-take-le}
use Rattle.std.proofs.lemmas.List.{take_all}
use Rattle.c_levels.proofs.store_levels.Goals as goal

pub copy_from_slice-requires : goal.copy_from_slice-requires
copy_from_slice-requires c = omega (arith, length-take-le 64 c.args.levels.now c.requires)

pub returns : goal.returns
returns c =
    ap (λ (l : List ℕ). l ++ drop 64 c.args.levels.now) (c.copy_from_slice.ensures.after ∙ sym (take_all 64 c.args.table.now (omega arith)))
