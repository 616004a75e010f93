use Rattle.std.proofs.Common.{◌≡◌, true, ◌+◌, ◌*◌, get_or}
use Rattle.window.specs.Stencil.{scatter}
use Rattle.lane_runs.proofs.across.store_lane.Given as goal

abbrev pub invariant-loop-k : goal.invariant-loop-k
invariant-loop-k l =
    l.samples ≡ scatter (λ i. true) (λ i. l.at + (l.taps.lo + i)) (λ i. get_or l.t (16 * (l.taps.lo + i) + l.l) 0) l.k l.initial.samples
