use Rattle.std.proofs.Common.{◌≡◌, ◌+◌, ◌*◌, ◌<◌, refl, get_or, arith}
use Rattle.lane_runs.specs.SpreadLaws.{spread_lane}
use Rattle.lane_runs.proofs.across.AcrossLines.scatter.Goals as goal

pub loop-l-preserved : goal.loop-l-preserved
loop-l-preserved c =
    let a = c.args in
    let run = c.requires in
    let taps = a.taps.few in
    let loop = c.loop-l in
    let l = loop.l in
    let at = a.self.at + l * a.self.along in
    let below : l < a.self.n = omega arith in
    spread_lane a.self.at 1 a.self.along a.self.n a.taps.lo a.taps.m (λ i k. get_or a.t.now (16 * k + i) 0) a.samples.now l loop.samples _ (λ k. at + (a.taps.lo + k)) (λ k. get_or a.t.now (16 * (a.taps.lo + k) + l) 0) run.spaced below taps (λ k b. run.lent l k below b) (λ k b. omega arith) (λ k b. refl) loop.invariant c.store_lane.ensures

pub returns : goal.returns
returns c = let all : c.loop-l.l ≡ c.args.self.n = omega arith in rw all at c.loop-l.invariant
