use Rattle.std.proofs.Common.{◌∙◌, sym, refl, rules, of_calls, arith, map}
use Rattle.std.proofs.lemmas.List.{get_or-map, map-id}
use Rattle.byte_filters.specs.ByteArm.{number_of}
use Rattle.byte_filters.specs.declared.Arm.TheVariants.{None}
use Rattle.byte_lanes.specs.ByteLanes.{arm_lane, narrow_lane, wide_lane, Stage}
use Rattle.byte_lanes.specs.ByteLanesLaws.{stage_on, stage_off, lanes_filtered, arms_fold}
use Rattle.byte_lanes.specs.declared.Changed.TheVariants.{Nothing, Inner, Outer}
use Rattle.byte_lanes.proofs.filter_byte_lanes.Goals as goal
use Rattle.byte_lanes.proofs.filter_byte_lanes.Goals.{Joined-four, Joined-six, then-four, else-four, then-six, else-six}

-- each stage, done or left out
four : (c : Joined-four) → Stage 1 (narrow_lane c.args.keys.now.of) (map number_of c.lane_arms-arms.result) c.args.t.now c.if-four.t c.any_arm-four.result
four c =
    let arms = c.lane_arms-arms.result in
    elim c.if-four.branch [
      | then-four w ↦
          let made = w.each_lane_unchecked.ensures in
          let done = made.filtered (arm_lane 1 (narrow_lane c.args.keys.now.of) (map number_of arms)) (record { each = λ l a r h is gives. rw (get_or-map number_of arms l None 0 (omega arith)) (search (rules, of_calls)) }) in
          stage_on w.if-four.true (simp map-id at done, made.long) w.t-is
      | else-four w ↦ stage_off 1 (c.any_arm-four.ensures ∙ arms_fold arms 1 (omega arith)) w.if-four.false c.told-t w.t-is
    ]

six : (c : Joined-six) → Stage 2 (wide_lane 3) (map number_of c.lane_arms-arms.result) c.if-four.t c.if-six.t c.any_arm-six.result
six c =
    let arms = c.lane_arms-arms.result in
    elim c.if-six.branch [
      | then-six w ↦
          let made = w.each_lane_unchecked-then-six.ensures in
          let done = made.filtered (arm_lane 2 (wide_lane 3) (map number_of arms)) (record { each = λ l a r h is gives. rw (get_or-map number_of arms l None 0 (omega arith)) (search (rules, of_calls)) }) in
          stage_on w.if-six.true (simp map-id at done, made.long) w.t-is
      | else-six w ↦ stage_off 2 (c.any_arm-six.ensures ∙ arms_fold arms 2 (omega arith)) w.if-six.false (four c.before).long w.t-is
    ]

pub returns-then-outer : goal.returns-then-outer
returns-then-outer c =
    let arms = c.lane_arms-arms.result in
    let made = c.each_lane_unchecked-then-outer.ensures in
    let done = made.filtered (arm_lane 3 (wide_lane 4) (map number_of arms)) (record { each = λ l a r h is gives. rw (get_or-map number_of arms l None 0 (omega arith)) (search (rules, of_calls)) }) in
    lanes_filtered (c.any_arm-outer.ensures ∙ arms_fold arms 3 (omega arith)) c.args.keys.now.keyed c.lane_arms-arms.ensures (four c.before.before.before.before.before) (six c.before.before.before.before)
    (stage_on c.if-outer.true (simp map-id at done, made.long) refl) Outer (sym c.if-outer.true) (λ e. cc)

pub returns-then-four-six : goal.returns-then-four-six
returns-then-four-six c =
    let is = c.any_arm-outer.ensures ∙ arms_fold c.lane_arms-arms.result 3 (omega arith) in
    let second = six c.before.before in
    lanes_filtered is c.args.keys.now.keyed c.lane_arms-arms.ensures (four c.before.before.before) second
    (stage_off 3 is c.if-outer.false second.long refl) Inner (sym c.if-outer.false) (λ e. cc)

pub returns-else-four-six : goal.returns-else-four-six
returns-else-four-six c =
    let is = c.any_arm-outer.ensures ∙ arms_fold c.lane_arms-arms.result 3 (omega arith) in
    let second = six c.before.before in
    lanes_filtered is c.args.keys.now.keyed c.lane_arms-arms.ensures (four c.before.before.before) second
    (stage_off 3 is c.if-outer.false second.long refl) Nothing (sym c.if-outer.false) (λ e. c.if-four-six.false)
