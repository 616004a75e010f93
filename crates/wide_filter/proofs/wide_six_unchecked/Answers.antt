use Rattle.std.proofs.Common.{arith}
use Rattle.wide_filter.specs.Taps.{tap}
use Rattle.wide_filter.proofs.WideSums.{wide_six}
use Rattle.wide_filter.proofs.Sides.{p_four, q_four}
use Rattle.lane.specs.LaneSamples.{samples_of}
use Rattle.wide_filter.proofs.wide_six_unchecked.Goals as goal

pub side_unchecked-r-requires : goal.side_unchecked-r-requires
side_unchecked-r-requires g c =
    let a = c.args.a in
    let b = g.S.Sum.top in
    (omega arith, ((omega arith, omega arith), (p_four b a c.requires, q_four b a c.requires)))

pub side_unchecked-s-requires : goal.side_unchecked-s-requires
side_unchecked-s-requires g c =
    let a = c.args.a in
    let b = g.S.Sum.top in
    (omega arith, ((omega arith, omega arith), (q_four b a c.requires, p_four b a c.requires)))

pub returns : goal.returns
returns g c =
    let r = c.side_unchecked-r.result in
    let s = c.side_unchecked-s.result in
    let a = c.side_unchecked-r.ensures in
    let b = c.side_unchecked-s.ensures in
    wide_six (samples_of c.args.a) (tap r 2) (tap r 1) (tap r 0) (tap s 0) (tap s 1) (tap s 2) (a.each 2 (omega arith)) (a.each 1 (omega arith)) (a.each 0 (omega arith)) (b.each 0 (omega arith)) (b.each 1 (omega arith)) (b.each 2 (omega arith))
