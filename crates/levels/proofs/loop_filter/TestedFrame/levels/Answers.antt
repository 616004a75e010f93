use Rattle.std.proofs.Common.{get_or}
use Rattle.level_lookup.specs.LevelLookup.{zero_levels}
use Rattle.levels.proofs.LevelLaws.{segment_more}
use Rattle.levels.proofs.loop_filter.TestedFrame.levels.Goals as goal

pub loop-segment-preserved : goal.loop-segment-preserved
loop-segment-preserved c =
    let a = c.args.self in
    let l = c.loop-segment in
    let segments = c.counted_levels-segments in
    rw (c.store_segment.ensures, l.invariant)
    (segment_more a.lf c.args.seg a.deltas (get_or segments.result l.segment 0) l.segment zero_levels (λ k. segments.ensures l.segment k c.loop-segment-test.true))
