use Rattle.std.proofs.Common.{refl, arith}
use Rattle.strength.specs.Strength.{strength_of}
use Rattle.strength.specs.StrengthLaws.{limit_small}
use Rattle.strength.proofs.LimitTable.strength.Goals as goal

pub overflow_add-result-2 : goal.overflow_add-result-2
overflow_add-result-2 c =
    let a = c.args in
    let limit = a.self.now.ruled.limit a.level.number a.sharpness.level a.level.small a.sharpness.small in
    rw (c.from.ensures, c.from-2.ensures, limit) (record { fits = omega (arith, limit_small a.level.number a.sharpness.level a.level.small) })

pub returns : goal.returns
unfolding strength_of
returns c =
    let a = c.args in
    rw (c.from.ensures, c.from-2.ensures, a.self.now.ruled.limit a.level.number a.sharpness.level a.level.small a.sharpness.small) refl
