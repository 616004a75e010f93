-- The wide filter is the page's.
-- Assumes nothing.
use Rattle.std.specs.Prelude.{◌≡◌, ℕ, ◌+◌, ℤ, pos, ◌-ℤ◌}
use Rattle.std.proofs.Common.{arith}
use Rattle.base.specs.Filled.{filled, filled_same}
use Rattle.section_8_8.specs.LoopFilterProcess as Std
use Rattle.wide_filter.specs.WideFilter.{smoothed, wide_filter}
use Rattle.wide_filter.specs.WideFilterStandard.{sum_standard, taps_of}

smoothed_standard : (l : Std.Line) (i : ℤ) → (smoothed 3 (taps_of l) i ≡ Std.smoothed 3 3 l i) × (smoothed 4 (taps_of l) i ≡ Std.smoothed 7 4 l i)
unfolding smoothed Std.smoothed
smoothed_standard l i = (rw (sum_standard 3 l i 7 (omega arith)), rw (sum_standard 7 l i 15 (omega arith)))

-- both write F'[ i ] at place 8 + i
pub wide_standard : (l : Std.Line) → (wide_filter 3 (taps_of l) ≡ taps_of (Std.wide_filter 3 l)) × (wide_filter 4 (taps_of l) ≡ taps_of (Std.wide_filter 4 l))
unfolding wide_filter Std.wide_filter filled
wide_standard l = (
  filled_same (ours 3) (theirs 3 3) 5 6 (taps_of l) (λ k h. (smoothed_standard l (pos (5 + k) -ℤ pos 8)).0),
  filled_same (ours 4) (theirs 7 4) 1 14 (taps_of l) (λ k h. (smoothed_standard l (pos (1 + k) -ℤ pos 8)).1),
)
  where
    ours : (log2_size k : ℕ) → ℕ
    ours log2_size k = smoothed log2_size (taps_of l) (pos k -ℤ pos 8)

    theirs : (n log2_size k : ℕ) → ℕ
    theirs n log2_size k = Std.smoothed n log2_size l (pos k -ℤ pos 8)
