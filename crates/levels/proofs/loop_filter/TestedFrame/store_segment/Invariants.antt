use Rattle.std.proofs.Common.{◌≡◌, ◌*◌}
use Rattle.base.specs.Filled.{filled}
use Rattle.levels.specs.Levels.{segment_lvl}
use Rattle.levels.proofs.loop_filter.TestedFrame.store_segment.Given as goal

abbrev pub invariant-loop-k : goal.invariant-loop-k
invariant-loop-k l =
    l.levels ≡ filled (segment_lvl l.self.lf l.self.deltas l.lvl) (l.segment * 8) l.k l.initial.levels
