use Rattle.std.proofs.Common.{◌≡◌, replicate}
use Rattle.base.specs.Filled.{filled}
use Rattle.levels.specs.Levels.{lvl_seg}
use Rattle.levels.proofs.loop_filter.TestedFrame.segment_levels.Given as goal

abbrev pub invariant-loop-segment : goal.invariant-loop-segment
invariant-loop-segment l = l.levels ≡ filled (lvl_seg l.self.lf l.seg) 0 l.segment (replicate 8 0)
