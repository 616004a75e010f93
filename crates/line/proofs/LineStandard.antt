-- The line is the page's sample filtering (`line_standard`).
-- Assumes nothing.
use Rattle.std.specs.Prelude.{◌≡◌, refl, Bool, true, false, cond, not, ◌||◌, List, ℕ, eqb, length}
use Rattle.section_8_8.specs.LoopFilterProcess as Std
use Rattle.line.specs.SampleFiltering.{sample_filtering}
use Rattle.wide_filter.specs.WideFilterStandard.{taps_of}
use Rattle.wide_filter.proofs.WideFilterStandard.{wide_standard}
use Rattle.line.specs.LineStandard.{flat2_standard, flat_standard, hev_standard, line_of, mask_standard, narrow_standard, taps_line}

pub sample_filtering_standard : (B size limit blimit thresh : ℕ) (l : Std.Line) → sample_filtering B size limit blimit thresh (taps_of l) ≡ taps_of (Std.sample_filtering B size limit blimit thresh l)
unfolding sample_filtering Std.sample_filtering
sample_filtering_standard B size limit blimit thresh l =
    rw (
      mask_standard B limit blimit l,
      flat_standard B l,
      flat2_standard B l,
      hev_standard B thresh l,
      narrow_standard B (Std.hev_mask B thresh l) l,
      (wide_standard l).0,
      (wide_standard l).1,
    )
    (cases
    (Std.filter_mask B limit blimit l)
    (eqb size 0 || not (Std.flat_mask B l))
    (eqb size 1 || not (Std.flat_mask2 B l))
    (Std.narrow_filter B (Std.hev_mask B thresh l) l)
    (Std.wide_filter 3 l)
    (Std.wide_filter 4 l))
  where
    cases : (m f g : Bool) (narrow six fourteen : Std.Line) → cond m (cond f (taps_of narrow) (cond g (taps_of six) (taps_of fourteen))) (taps_of l) ≡ taps_of (cond (not m) l (cond f narrow (cond g six fourteen)))
    cases false f g narrow six fourteen = refl
    cases true true g narrow six fourteen = refl
    cases true false true narrow six fourteen = refl
    cases true false false narrow six fourteen = refl

pub line_standard : (B size limit blimit thresh : ℕ) (t : List ℕ) → length t ≡ 16 → sample_filtering B size limit blimit thresh t ≡ taps_of (Std.sample_filtering B size limit blimit thresh (line_of t))
line_standard B size limit blimit thresh t e =
    rw (taps_line t e) at (sample_filtering_standard B size limit blimit thresh (line_of t))
