use Rattle.std.proofs.Common.{◌+◌, ◌*◌, get_or}
use Rattle.lane_runs.specs.Spread.{Spread}
use Rattle.lane_runs.proofs.across.AcrossLines.scatter.Given as goal

abbrev pub invariant-loop-l : goal.invariant-loop-l
invariant-loop-l l = Spread l.self.at 1 l.self.along l.l l.taps.lo l.taps.m (λ i k. get_or l.t (16 * k + i) 0) l.initial.samples l.samples
