use Rattle.std.proofs.Common.{sym, subst, rules}
use Rattle.lane.specs.LaneSamples.{samples_of}
use Rattle.wide_filter.specs.WideSums.{AtMost, most_none, most_next}
use Rattle.byte_filters.specs.ByteBounds.{bytes_small, bytes_within, fourteen_small}
use Rattle.byte_filters.proofs.wide.wide_fourteen.Goals as goal
use Rattle.byte_filters.proofs.wide.wide_fourteen.Goals.{After-from}

-- the lane that was widened is one of bytes
bytes : (c : After-from) → AtMost 255 (samples_of c.from.result)
bytes c = subst (AtMost 255) (sym c.from.ensures) (search (rules, most_none, most_next) depth 20)

pub wide_fourteen_unchecked-requires : goal.wide_fourteen_unchecked-requires
wide_fourteen_unchecked-requires c = bytes_small (bytes_within (bytes c))

pub fourteen_bytes-requires : goal.fourteen_bytes-requires
fourteen_bytes-requires c = fourteen_small c.from.result c.wide_fourteen_unchecked.result (bytes c.before) c.wide_fourteen_unchecked.ensures
