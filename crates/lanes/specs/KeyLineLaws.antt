-- Laws of the line filter that a key names.
-- Assumes nothing.
use Rattle.std.specs.Prelude.{◌≡◌, false, List, ℕ, ◌/◌, ◌%◌, ◌<◌, ltb}
use Rattle.std.proofs.Common.{lt-ltb}
use Rattle.line.specs.SampleFiltering.{sample_filtering}
use Rattle.strength.specs.Strength.{strength_of}
use Rattle.strength.specs.declared.FilterStrength.{FilterStrength}
use Rattle.lanes.specs.KeyLine.{key_line}

module _ (sharpness depth key : ℕ) where
  pub key_line_on : (st : FilterStrength) → 0 < key % 64 → st ≡ strength_of (key % 64) sharpness
      → sample_filtering depth (key / 64) st.limit st.blimit st.thresh ≡ key_line sharpness depth key
  unfolding key_line
  key_line_on st on is = rw (lt-ltb 0 (key % 64) on) (λ i. sample_filtering depth (key / 64) (is i).limit (is i).blimit (is i).thresh)

  -- level 0 leaves the line
  pub key_line_off : ltb 0 (key % 64) ≡ false → (line : List ℕ) → key_line sharpness depth key line ≡ line
  unfolding key_line
  key_line_off off line = rw off
