-- Lines whose samples are bytes: a lane of 16 bits holds them, and what is made of them goes back into bytes.
-- Assumes nothing.
use Rattle.std.specs.Prelude.{◌≡◌, List, ℕ, ◌<◌}
use Rattle.std.proofs.Common.{sym, subst, arith}
use Rattle.lane.specs.LaneSamples.{samples_of, six_of, fourteen_of, put_taps}
use Rattle.lane.specs.declared.Lane.{Lane}
use Rattle.lane.specs.declared.Six.{Six}
use Rattle.wide_filter.specs.Taps.{tap, Within}
use Rattle.wide_filter.specs.WideFilter.{wide_filter}
use Rattle.wide_filter.specs.WideFilterLaws.{wide_below}
use Rattle.wide_filter.specs.WideSums.{AtMost}

-- the samples that the wide filter changes are bytes
abbrev pub SixBytes : Six ℕ → Type 0
SixBytes r = (r.p2 < 256) × (r.p1 < 256) × (r.p0 < 256) × (r.q0 < 256) × (r.q1 < 256) × (r.q2 < 256)

abbrev pub FourteenBytes : Lane ℕ → Type 0
FourteenBytes r =
    (r.p6 < 256) × (r.p5 < 256) × (r.p4 < 256) × (r.p3 < 256) × (r.p2 < 256) × (r.p1 < 256) × (r.p0 < 256)
    × (r.q0 < 256) × (r.q1 < 256) × (r.q2 < 256) × (r.q3 < 256) × (r.q4 < 256) × (r.q5 < 256) × (r.q6 < 256)

-- a line of bytes is one of 12 bits
pub bytes_small : {t : List ℕ} → Within 256 t → Within 4096 t
bytes_small w = record { below = λ k h. omega (arith, w.below k h) }

pub bytes_within : {t : List ℕ} → AtMost 255 t → Within 256 t
bytes_within f = record { below = λ k h. omega (arith, f.most k) }

-- what the filter makes of bytes
pub six_small : (a : Lane ℕ) (r : Six ℕ) → AtMost 255 (samples_of a) → put_taps (samples_of a) 5 (six_of r) ≡ wide_filter 3 (samples_of a) → SixBytes r
six_small a r f e = (at 5 (omega arith), at 6 (omega arith), at 7 (omega arith), at 8 (omega arith), at 9 (omega arith), at 10 (omega arith))
  where
    at : (k : ℕ) → k < 16 → tap (put_taps (samples_of a) 5 (six_of r)) k < 256
    at k h = subst (λ (t : List ℕ). tap t k < 256) (sym e) ((wide_below 256 (samples_of a) (bytes_within f)).0.below k h)

pub fourteen_small : (a r : Lane ℕ) → AtMost 255 (samples_of a) → put_taps (samples_of a) 1 (fourteen_of r) ≡ wide_filter 4 (samples_of a) → FourteenBytes r
fourteen_small a r f e = (
  at 1 (omega arith),
  at 2 (omega arith),
  at 3 (omega arith),
  at 4 (omega arith),
  at 5 (omega arith),
  at 6 (omega arith),
  at 7 (omega arith),
  at 8 (omega arith),
  at 9 (omega arith),
  at 10 (omega arith),
  at 11 (omega arith),
  at 12 (omega arith),
  at 13 (omega arith),
  at 14 (omega arith),
)
  where
    at : (k : ℕ) → k < 16 → tap (put_taps (samples_of a) 1 (fourteen_of r)) k < 256
    at k h = subst (λ (t : List ℕ). tap t k < 256) (sym e) ((wide_below 256 (samples_of a) (bytes_within f)).1.below k h)
