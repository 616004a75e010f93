use Rattle.std.proofs.Common.{[]}
use Rattle.base.specs.Outcome.{accepted}
use Rattle.faults.specs.FaultsLaws.{lent_passed}
use Rattle.window.specs.RangeLaws.{tested_range}
use Rattle.superblock_pass.proofs.test_lists_and_filter.Goals as goal

pub test_levels_and_filter-requires : goal.test_levels_and_filter-requires
test_levels_and_filter-requires g c =
    let a = c.args in
    let l = lent_passed a.g a.t.s.of a.t.depth.bits (g.C.Words.words a.cells) (g.S.PlaneSample.values a.samples.now) _ (c.in_ok-list_faults_unchecked.ensures (accepted [])) in
    (record { window = l.1; range = tested_range _ _ _ l.2; placed = a.t.s.placed; cells = c.requires.0; sharpness = a.t.sharpness.small; depth = a.t.depth.known }, c.requires.1)
