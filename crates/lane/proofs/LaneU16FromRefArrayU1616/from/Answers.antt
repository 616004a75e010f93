use Rattle.std.proofs.Common.{arith}
use Rattle.lane.proofs.Whole.{whole}
use Rattle.lane.proofs.LaneU16FromRefArrayU1616.from.Goals as goal

pub returns : goal.returns
returns c = whole c.args.t.now (omega arith)
