use Rattle.std.proofs.Common.{sym, subst, rules}
use Rattle.lane.specs.LaneSamples.{samples_of}
use Rattle.wide_filter.specs.WideSums.{AtMost, most_none, most_next}
use Rattle.byte_filters.specs.ByteBounds.{bytes_small, bytes_within, six_small}
use Rattle.byte_filters.proofs.wide.wide_six.Goals as goal
use Rattle.byte_filters.proofs.wide.wide_six.Goals.{After-from}

-- the lane that was widened is one of bytes
bytes : (c : After-from) → AtMost 255 (samples_of c.from.result)
bytes c = subst (AtMost 255) (sym c.from.ensures) (search (rules, most_none, most_next) depth 20)

pub wide_six_unchecked-requires : goal.wide_six_unchecked-requires
wide_six_unchecked-requires c = bytes_small (bytes_within (bytes c))

pub six_bytes-requires : goal.six_bytes-requires
six_bytes-requires c = six_small c.from.result c.wide_six_unchecked.result (bytes c.before) c.wide_six_unchecked.ensures

pub returns : goal.returns
returns c = cc
