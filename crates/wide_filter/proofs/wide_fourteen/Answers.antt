use Rattle.std.proofs.Common.{rules}
use Rattle.wide_filter.proofs.Sides.{lane_within}
use Rattle.wide_filter.proofs.wide_fourteen.Goals as goal

pub wide_fourteen_unchecked-requires : goal.wide_fourteen_unchecked-requires
wide_fourteen_unchecked-requires c = search (rules, lane_within)
