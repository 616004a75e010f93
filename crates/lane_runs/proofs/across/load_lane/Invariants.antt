use Rattle.std.proofs.Common.{◌≡◌, true, ◌+◌, ◌*◌, get_or}
use Rattle.window.specs.Stencil.{scatter}
use Rattle.lane_runs.proofs.across.load_lane.Given as goal

abbrev pub invariant-loop-k : goal.invariant-loop-k
invariant-loop-k l =
    l.t ≡ scatter (λ i. true) (λ i. 16 * (l.taps.lo + i) + l.l) (λ i. get_or l.samples (l.at + (l.taps.lo + i)) 0) l.k l.initial.t
