use Rattle.std.proofs.Common.{sym, ◌∙◌, rules, of_calls, arith}
use Rattle.std.proofs.lemmas.List.{map-id}
use Rattle.lane_filters.specs.Small.{Small}
use Rattle.line.specs.SampleFiltering.{sample_filtering}
use Rattle.line.specs.SampleFilteringLaws.{filters_large}
use Rattle.lanes.specs.Lanes.{lane_of}
use Rattle.lanes.specs.LanesLaws.{lanes_fewer, none_kept, small_lane}
use Rattle.lanes.proofs.filter_lanes_unchecked.Goals as goal

pub returns-then-not-any_mask : goal.returns-then-not-any_mask
returns-then-not-any_mask c =
    let a = c.args in
    (none_kept a.n a.f.depth.bits a.f.limit a.f.blimit c.whole-m.result a.size a.f.thresh a.t.now c.whole-m.ensures.0 (c.any_mask.ensures (c.if-not-any_mask.true)), λ e. cc)

pub each_lane_unchecked-requires : goal.each_lane_unchecked-requires
each_lane_unchecked-requires c =
    (omega arith, (omega arith, λ l a h is. let s : Small a = small_lane c.args.t.now l a (omega arith) c.requires.1 is in search (rules, of_calls)))

pub returns-then-size-eq0 : goal.returns-then-size-eq0
returns-then-size-eq0 c =
    let a = c.args in
    let done = c.each_lane_unchecked.ensures.filtered (λ _. sample_filtering a.f.depth.bits 0 a.f.limit a.f.blimit a.f.thresh) (record { each = λ l a r h is gives. search (rules, of_calls) }) in
    (rw c.if-size-eq0.true (lanes_fewer c.whole-m.ensures.0 (simp map-id at done)), λ e. cc)

pub each_lane_unchecked-requires-then-size-eq1 : goal.each_lane_unchecked-requires-then-size-eq1
each_lane_unchecked-requires-then-size-eq1 c =
    (omega arith, (omega arith, λ l a h is. let s : Small a = small_lane c.args.t.now l a (omega arith) c.requires.1 is in search (rules, of_calls)))

pub returns-then-size-eq1 : goal.returns-then-size-eq1
returns-then-size-eq1 c =
    let a = c.args in
    let done = c.each_lane_unchecked-then-size-eq1.ensures.filtered (λ _. sample_filtering a.f.depth.bits 1 a.f.limit a.f.blimit a.f.thresh) (record { each = λ l a r h is gives. search (rules, of_calls) }) in
    (rw c.if-size-eq1.true (lanes_fewer c.whole-m.ensures.0 (simp map-id at done)), λ e. cc)

pub each_lane_unchecked-requires-2 : goal.each_lane_unchecked-requires-2
each_lane_unchecked-requires-2 c =
    (omega arith, (omega arith, λ l a h is. let s : Small a = small_lane c.args.t.now l a (omega arith) c.requires.1 is in search (rules, of_calls)))

pub returns : goal.returns
returns c =
    let a = c.args in
    let done = c.each_lane_unchecked-2.ensures.filtered (λ _. sample_filtering a.f.depth.bits 2 a.f.limit a.f.blimit a.f.thresh) (record { each = λ l a r h is gives. search (rules, of_calls) }) in
    let two = lanes_fewer c.whole-m.ensures.0 (simp map-id at done) in
    (record { each = λ l b. two.each l b ∙ sym (filters_large a.f.depth.bits a.size a.f.limit a.f.blimit a.f.thresh (lane_of a.t.now l) (omega arith)) }, λ e. cc)
