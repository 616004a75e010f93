use Rattle.std.proofs.Common.{rules}
use Rattle.lane_filters.specs.Small.{near_within}
use Rattle.lane_filters.proofs.narrow.narrow_filter.Goals as goal

pub filter_base-base-requires : goal.filter_base-base-requires
filter_base-base-requires c = search (rules, near_within)

pub filter_value-filter-requires : goal.filter_value-filter-requires
filter_value-filter-requires c = search (rules, near_within)

pub increased-p0-requires : goal.increased-p0-requires
increased-p0-requires c = search (rules, near_within)

pub decreased-q0-requires : goal.decreased-q0-requires
decreased-q0-requires c = search (rules, near_within)

pub increased-p1-requires : goal.increased-p1-requires
increased-p1-requires c = search (rules, near_within)

pub decreased-q1-requires : goal.decreased-q1-requires
decreased-q1-requires c = search (rules, near_within)
