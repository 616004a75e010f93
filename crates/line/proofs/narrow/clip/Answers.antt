use Rattle.std.proofs.Common.{◌≡◌, refl, ◌∙◌, ℤ, pos, ◌-ℤ◌, ◌≤ℤ◌, w32, arith, to_z-of_z}
use Rattle.std.proofs.lemmas.Int.{ints}
use Rattle.std.specs.Int.{int_max, int_min}
use Rattle.base.specs.Machine.{back, Far, minus_read}
use Rattle.base.specs.Notation.{clip3}
use Rattle.line.specs.NarrowFilter.{c}
use Rattle.line.specs.NarrowFilterLaws.{c_is, c_small}
use Rattle.base.specs.Depth.{depth_scaled}
use Rattle.line.proofs.narrow.clip.Goals as goal

clamped : (lo hi v : ℤ) → lo ≤ℤ hi → int_max lo (int_min v hi) ≡ clip3 lo hi v
unfolding clip3
clamped lo hi v h = grind (arith, ints)

pub returns : goal.returns
returns x =
    let half = x.offset-half.result in
    let far : Far half = record { far = omega arith } in
    let s = depth_scaled x.args.depth.bits x.args.depth.known in
    let value : x.clamp.result ≡ int_max (pos 0 -ℤ half) (int_min x.args.v (half -ℤ pos 1)) =
    rw (minus_read (pos 0) half (record { far = omega arith }) far, minus_read half (pos 1) far (record { far = omega arith }), to_z-of_z x.ranges.v) at x.clamp.ensures.value in
    let same : x.clamp.result ≡ c x.args.depth.bits x.args.v =
    value ∙ (rw x.offset-half.ensures.0 (clamped _ _ _ (omega (arith, ints))) ∙ c_is x.args.depth.bits x.args.depth.known x.args.v) in
    rw (back w32 x.clamp.type_inv, same) (refl, omega (arith, c_small x.args.depth.bits x.args.depth.known x.args.v))
