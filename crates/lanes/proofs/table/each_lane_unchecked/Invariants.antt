use Rattle.std.proofs.Common.{◌≡◌, ◌<◌, ◌≤◌, length, ℕ, List, map}
use Rattle.lanes.specs.Lanes.{lane_of, EachLaneTo, Follows}
use Rattle.lanes.proofs.table.each_lane_unchecked.Given as goal

abbrev pub invariant-loop-l : goal.invariant-loop-l
invariant-loop-l g l =
    (length l.t ≡ 256)
    × ((k : ℕ) → l.l ≤ k → k < 16 → lane_of (map g.T.Sample.value l.t) k ≡ lane_of (map g.T.Sample.value l.initial.t) k)
    × ((line : ℕ → List ℕ → List ℕ) → Follows g.T.Sample.value g.R.Part.first g.R.Part.taps (goal.F-post g l.filter) l.n (map g.T.Sample.value l.initial.t) line → EachLaneTo l.l line (map g.T.Sample.value l.initial.t) (map g.T.Sample.value l.t))
