use Rattle.std.proofs.Common.{◌≡◌, ◌*◌}
use Rattle.base.specs.Filled.{filled}
use Rattle.level_lookup.specs.LevelLookup.{zero_levels}
use Rattle.levels.specs.Levels.{place_lvl}
use Rattle.levels.proofs.loop_filter.TestedFrame.levels.Given as goal

abbrev pub invariant-loop-segment : goal.invariant-loop-segment
invariant-loop-segment l =
    l.levels ≡ filled (place_lvl l.self.lf l.fn.seg l.self.deltas) 0 (l.segment * 8) zero_levels
