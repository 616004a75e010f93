use Rattle.std.proofs.Common.{zero-add, replicate}
use Rattle.base.specs.Filled.{filled_more}
use Rattle.levels.specs.Levels.{lvl_seg}
use Rattle.levels.proofs.loop_filter.TestedFrame.segment_levels.Goals as goal

pub loop-segment-preserved : goal.loop-segment-preserved
loop-segment-preserved c =
    let l = c.loop-segment in
    rw (l.invariant, c.segment_level.ensures.0)
    (rw (zero-add l.segment) at (filled_more (lvl_seg c.args.self.lf c.args.seg) 0 l.segment (replicate 8 0)))
