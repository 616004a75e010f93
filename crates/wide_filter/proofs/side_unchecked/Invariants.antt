use Rattle.std.proofs.Common.{◌≡◌, ◌<◌, ◌≤◌, ◌+◌, ◌-◌, length, ℕ}
use Rattle.wide_filter.specs.Taps.{tap}
use Rattle.wide_filter.specs.WideSums.{side}
use Rattle.wide_filter.proofs.SideSums.{total}
use Rattle.wide_filter.proofs.side_unchecked.Given as goal

abbrev pub invariant-loop-v : goal.invariant-loop-v
invariant-loop-v g l = g.S.Sum.value l.near ≡ g.row.M + total l.fn.x l.v-index

abbrev pub invariant-loop-k : goal.invariant-loop-k
invariant-loop-k g l =
    (g.S.Sum.value l.far ≡ total l.y l.k) × (length l.r ≡ g.row.M) × ((i : ℕ) → i < g.row.M - 1 → g.row.M - 1 ≤ i + l.k → tap l.r i ≡ side (g.row.M - 1) l.x l.y i)
