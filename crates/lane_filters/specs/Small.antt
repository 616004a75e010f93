-- A lane of at most 12 bits.
-- Assumes nothing.
use Rattle.std.specs.Prelude.{ℕ, ◌<◌}
use Rattle.std.proofs.Common.{arith}
use Rattle.lane.specs.LaneSamples.{samples_of}
use Rattle.lane.specs.declared.Lane.{Lane}
use Rattle.wide_filter.specs.Taps.{Within}

-- 12 bits hold each sample. A clause and no type: a lane comes out of a table of any samples, so that a type of its own would be
-- made anew at each call, by the same proof.
abbrev pub Small : Lane ℕ → Type 0
Small a = Within 4096 (samples_of a)

-- the samples that the narrow filter computes with
pub near_within : (b : ℕ) (a : Lane ℕ) → Within b (samples_of a) → (a.p1 < b) × (a.p0 < b) × (a.q0 < b) × (a.q1 < b)
near_within b a h = (h.below 6 (omega arith), h.below 7 (omega arith), h.below 8 (omega arith), h.below 9 (omega arith))
