use Rattle.std.proofs.Common.{arith}
use Rattle.wide_filter.specs.Taps.{tap}
use Rattle.wide_filter.proofs.WideSums.{wide_fourteen}
use Rattle.wide_filter.proofs.Sides.{p_eight, q_eight}
use Rattle.lane.specs.LaneSamples.{samples_of}
use Rattle.wide_filter.proofs.wide_fourteen_unchecked.Goals as goal

pub side_unchecked-r-requires : goal.side_unchecked-r-requires
side_unchecked-r-requires g c =
    let a = c.args.a in
    let b = g.S.Sum.top in
    (omega arith, ((omega arith, omega arith), (p_eight b a c.requires, q_eight b a c.requires)))

pub side_unchecked-s-requires : goal.side_unchecked-s-requires
side_unchecked-s-requires g c =
    let a = c.args.a in
    let b = g.S.Sum.top in
    (omega arith, ((omega arith, omega arith), (q_eight b a c.requires, p_eight b a c.requires)))

pub returns : goal.returns
returns g c =
    let r = c.side_unchecked-r.result in
    let s = c.side_unchecked-s.result in
    let a = c.side_unchecked-r.ensures in
    let b = c.side_unchecked-s.ensures in
    wide_fourteen (samples_of c.args.a) (tap r 6) (tap r 5) (tap r 4) (tap r 3) (tap r 2) (tap r 1) (tap r 0) (tap s 0) (tap s 1) (tap s 2) (tap s 3) (tap s 4) (tap s 5) (tap s 6) (a.each 6 (omega arith)) (a.each 5 (omega arith)) (a.each 4 (omega arith)) (a.each 3 (omega arith)) (a.each 2 (omega arith)) (a.each 1 (omega arith)) (a.each 0 (omega arith)) (b.each 0 (omega arith)) (b.each 1 (omega arith)) (b.each 2 (omega arith)) (b.each 3 (omega arith)) (b.each 4 (omega arith)) (b.each 5 (omega arith)) (b.each 6 (omega arith))
