use Rattle.std.proofs.Common.{◌≡◌, ◌∙◌, ap, length, map, arith, refl}
use Rattle.lane.specs.LaneSamples.{values_of}
use Rattle.lanes.specs.Lanes.{lane_of}
use Rattle.lanes.specs.LanesLaws.{lanes_none, lane_values, lane_put, lane_rest, put-length}
use Rattle.lanes.proofs.table.each_lane_unchecked.Goals as goal

pub loop-l-init : goal.loop-l-init
loop-l-init g c = (c.told-t, (λ k h b. refl), λ line follows. lanes_none (map g.T.Sample.value c.args.t.now))

pub filter-r-requires : goal.filter-r-requires
filter-r-requires g c =
    let (long, rest, to) = c.loop-l.invariant in
    let l = c.loop-l.l in
    c.requires.callable l c.lane_at_unchecked-a.result (omega arith)
    (lane_values g.T.Sample.value c.loop-l.t l long (omega arith) c.lane_at_unchecked-a.ensures ∙ rest l (omega arith) (omega arith))

pub loop-l-preserved : goal.loop-l-preserved
loop-l-preserved g c =
    let (long, rest, to) = c.loop-l.invariant in
    let value = g.T.Sample.value in
    let first = g.R.Part.first in
    let a = c.lane_at_unchecked-a.result in
    let vs = g.R.Part.taps c.filter-r.result in
    let u = c.loop-l.t in
    let v = c.put_unchecked.new.t in
    let m = c.loop-l.l in
    let put = c.put_unchecked.ensures in
    let is : values_of value a ≡ lane_of (map value u) m = lane_values value u m long (omega arith) c.lane_at_unchecked-a.ensures in (
      ap length put ∙ put-length u m first vs ∙ long,
      (λ k h b. lane_rest value m first k vs u v (omega arith) b (λ e. omega arith) put ∙ rest k (omega arith) b),
      λ line follows.
          lane_put value line m first a vs u v (map value c.args.t.now) (omega arith) (g.met.R.Part.within c.filter-r.result) long (to line follows) is
          (follows.each m a c.filter-r.result (omega arith) (is ∙ rest m (omega arith) (omega arith)) c.filter-r.ensures)
          put,
    )
