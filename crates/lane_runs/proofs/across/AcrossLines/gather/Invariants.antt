use Rattle.lane_runs.specs.Spread.{Loaded}
use Rattle.lane_runs.proofs.across.AcrossLines.gather.Given as goal

abbrev pub invariant-loop-l : goal.invariant-loop-l
invariant-loop-l l = Loaded l.self.at 1 l.self.along l.l l.taps.lo l.taps.m l.samples l.t
