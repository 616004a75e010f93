use Rattle.std.proofs.Common.{◌≡◌, ◌+◌, ◌*◌, arith}
use Rattle.lane_runs.specs.SpreadLaws.{loaded_lane}
use Rattle.lane_runs.proofs.across.AcrossLines.gather.Goals as goal

pub loop-l-preserved : goal.loop-l-preserved
loop-l-preserved c =
    let a = c.args in
    let run = c.requires in
    let taps = a.taps.few in
    let loop = c.loop-l in
    loaded_lane a.self.at 1 a.self.along a.self.n a.taps.lo a.taps.m a.samples.now loop.l loop.t _ (λ k. a.self.at + loop.l * a.self.along + (a.taps.lo + k)) run (omega arith) taps (λ k b. omega arith) loop.invariant c.load_lane.ensures

pub returns : goal.returns
returns c = let all : c.loop-l.l ≡ c.args.self.n = omega arith in rw all at c.loop-l.invariant
