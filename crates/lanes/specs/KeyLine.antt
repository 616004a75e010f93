-- The line filter that a key names, so that each lane can have one of its own.
-- Assumes nothing.
use Rattle.std.specs.Prelude.{cond, List, ℕ, ◌/◌, ◌%◌, ltb}
use Rattle.line.specs.SampleFiltering.{sample_filtering}
use Rattle.strength.specs.Strength.{strength_of}

-- a key is 64 * size + level, and level 0 filters nothing
unfoldable pub key_line : (sharpness depth key : ℕ) → List ℕ → List ℕ
key_line sharpness depth key =
    let strength = strength_of (key % 64) sharpness in
    cond (ltb 0 (key % 64)) (sample_filtering depth (key / 64) strength.limit strength.blimit strength.thresh) (λ line. line)
