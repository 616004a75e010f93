use Rattle.std.proofs.Common.{arith}
use Rattle.base.specs.Tests.{neither}
use Rattle.lanes.specs.LanesLaws.{lane_read, none_more}
use Rattle.lanes.proofs.any_mask.Goals as goal

pub loop-l-preserved : goal.loop-l-preserved
loop-l-preserved c =
    let a = c.args in
    let is = lane_read a.t.now c.loop-l.l c.requires.0.long (omega arith) c.lane_at_unchecked-a.ensures in
    λ e.
    let (before, off) = neither c.loop-l.on e in
    none_more a.n a.f.depth.bits a.f.limit a.f.blimit c.loop-l.l a.t.now is (rw c.lane_mask.ensures at off) (c.loop-l.invariant before)
