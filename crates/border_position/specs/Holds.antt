-- Words that samples of a width can hold, and lines of them, which the line filter keeps so.
-- Assumes nothing.
use Rattle.std.specs.Prelude.{◌≡◌, true, List, ℕ, ◌<◌, get_or}
use Rattle.std.proofs.Common.{eqb→eq}
use Rattle.base.specs.Width.{Width, Byte, U16, admits, admits-supported}
use Rattle.line.specs.SampleFiltering.{sample_filtering}
use Rattle.line.specs.SampleFilteringLaws.{filters_within}
use Rattle.wide_filter.specs.Taps.{Within}

-- a byte holds a word below 256, and a word any other
abbrev pub Holds : Width → (word : ℕ) → Type 0
Holds Byte word = word < 256
Holds U16 word = Unit {0}

-- each of the 16 words of a line
pub record HoldsLine (w : Width) (t : List ℕ) : Type 0 where
  pub each : (k : ℕ) → k < 16 → Holds w (get_or t k 0)

-- bytes have depth 8, whose samples stay in range
pub line_held : (w : Width) (depth size limit blimit thresh : ℕ) (t : List ℕ) → admits w depth ≡ true → HoldsLine w t → HoldsLine w (sample_filtering depth size limit blimit thresh t)
line_held U16 depth size limit blimit thresh t e h = record { each = λ k l. tt }
line_held Byte depth size limit blimit thresh t e h =
    let eight : depth ≡ 8 = eqb→eq depth 8 (rw e tt) in
    let within : Within 256 t = record { below = h.each } in
    rw eight (record { each = (filters_within 8 size limit blimit thresh t (rw eight at (admits-supported depth Byte e)) within).below })
