-- Document 01's line: the sample filtering process with its refusals, for samples of a width.
-- Assumes nothing.
use Rattle.std.specs.Prelude.{Bool, not, List, ℕ, ◌^◌, leb, ltb, length}
use Rattle.base.specs.First.{refuse_first}
use Rattle.base.specs.Outcome.{Outcome, accepted, refuse}
use Rattle.base.specs.Width.{Width, admits}
use Rattle.wide_filter.specs.Taps.{tap}
use Rattle.line.specs.SampleFiltering.{sample_filtering}

-- the sample at tap k is not below b
abbrev pub reaches : (b : ℕ) (t : List ℕ) (k : ℕ) → Bool
reaches b t k = leb b (tap t k)

-- on 16 samples
unfoldable pub line : Width → (depth size limit blimit thresh : ℕ) (t : List ℕ) → Outcome (List ℕ)
line w depth size limit blimit thresh t =
    refuse (not (admits w depth)) 2 0
    (refuse_first (reaches (2 ^ depth) t) 16 13
    (refuse (ltb 2 size) 15 0
    (accepted (sample_filtering depth size limit blimit thresh t))))

-- on the first 16 of a lent list, which may be too short
unfoldable pub lent_line : Width → (depth size limit blimit thresh : ℕ) (t : List ℕ) → Outcome (List ℕ)
lent_line w depth size limit blimit thresh t =
    refuse (not (admits w depth)) 2 0
    (refuse (ltb (length t) 16) 7 0
    (line w depth size limit blimit thresh t))
