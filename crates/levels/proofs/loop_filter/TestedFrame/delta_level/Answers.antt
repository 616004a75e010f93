use Rattle.std.proofs.Common.{FitsSigned, ◌≡◌, ◌∙◌, ap, ℤ, to_z, of_z, ◌<◌, ◌^◌, ◌+ℤ◌, pos, get_or, w8, w32, arith, rules, to_z-of_z}
use Rattle.std.specs.Int.Signed.{mag}
use Rattle.base.specs.Notation.{shl_z}
use Rattle.base.specs.NotationLaws.{mag_add}
use Rattle.base.specs.Machine.{back}
use Rattle.levels.specs.Levels.{clipped_level, n_shift}
use Rattle.levels.proofs.LevelLaws.{delta_sum}
use Rattle.levels.proofs.loop_filter.TestedFrame.delta_level.Goals as goal

pub returns : goal.returns
returns c =
    let a = c.scaled-of_reference in
    let b = c.scaled-of_mode in
    let f : FitsSigned w8 (get_or c.args.self.deltas.refs c.args.reference (pos 0)) = search rules in
    let g : FitsSigned w8 (get_or c.args.self.deltas.modes c.args.mode (pos 0)) = search rules in
    let of_reference = rw (to_z-of_z f) at a.ensures.0 in
    let of_mode = rw (to_z-of_z g) at b.ensures.0 in
    let small : mag (a.result +ℤ b.result) < 2 ^ 31 = omega (arith, mag_add a.result b.result a.ensures.1 b.ensures.1) in
    let sum : to_z w32 (of_z w32 (to_z w32 (of_z w32 a.result) +ℤ to_z w32 (of_z w32 b.result))) ≡ a.result +ℤ b.result = rw (back w32 {z = a.result} a.type_inv, back w32 {z = b.result} b.type_inv) (back w32 small) in
    let both : a.result +ℤ b.result ≡ shl_z (get_or c.args.self.deltas.refs c.args.reference (pos 0)) (n_shift c.args.self.lf) +ℤ shl_z (get_or c.args.self.deltas.modes c.args.mode (pos 0)) (n_shift c.args.self.lf) = rw (of_reference, of_mode) in
    c.clipped_sum-2.ensures.0
    ∙ ap (λ (z : ℤ). clipped_level (pos c.args.lvl +ℤ z)) (sum ∙ both)
    ∙ delta_sum c.args.self.lf c.args.self.deltas c.args.lvl c.args.reference c.args.mode c.if-reference-eq0.false
