use Rattle.std.proofs.Common.{rules}
use Rattle.wide_filter.proofs.Sides.{lane_within}
use Rattle.wide_filter.proofs.wide_six.Goals as goal

pub wide_six_unchecked-requires : goal.wide_six_unchecked-requires
wide_six_unchecked-requires c = search (rules, lane_within)
