use Rattle.std.proofs.Common.{◌∙◌, ap}
use Rattle.byte_filters.specs.ByteArm.{arm_of}
use Rattle.lanes.specs.LanesLaws.{lane_read}
use Rattle.byte_lanes.proofs.arm_at.Goals as goal

pub returns : goal.returns
returns c =
    let t = c.args.t.now in
    c.lane_arm.ensures ∙ ap (arm_of c.args.sharpness.level _) (lane_read t c.args.l c.told-t c.requires c.lane_at_unchecked.ensures)
