use Rattle.std.proofs.Common.{◌≡◌, refl, ◌∙◌, arith, rules, of_calls, get_or}
use Rattle.std.proofs.lemmas.List.{get_or-map}
use Rattle.base.specs.FromFn.{from_fn_each}
use Rattle.byte_filters.specs.ByteArm.{number_of, arm_of}
use Rattle.byte_filters.specs.declared.Arm.{Arm}
use Rattle.byte_filters.specs.declared.Arm.TheVariants.{None}
use Rattle.lanes.specs.Lanes.{lane_of}
use Rattle.byte_lanes.proofs.lane_arms.Goals as goal

pub returns : goal.returns
returns c =
    let a = c.args in
    let arms = c.from_fn.result in
    let items = c.from_fn.ensures.items in
    let each = from_fn_each _ (λ l (y : Arm). number_of y ≡ arm_of a.sharpness.level (get_or a.keys.now.of l 0) (lane_of a.t.now l)) (λ f. (f.0.now ≡ a.t.now) × (f.1.now ≡ a.keys.now) × (f.2 ≡ a.sharpness)) 16 (λ f f' l y below h call. (rw (← h.0, ← h.1, ← h.2) (search (rules, of_calls)), search rules)) _ arms None (refl, refl, refl) items in
    record { each = λ l below. get_or-map number_of arms l None 0 (omega (arith, items.long)) ∙ each l below }
