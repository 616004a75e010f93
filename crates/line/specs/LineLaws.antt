-- Laws of document 01's line: its cases.
-- Assumes nothing.
use Rattle.std.specs.Prelude.{◌≡◌, Bool, true, false, not, ltb, List, ℕ, ◌^◌, ◌≤◌, ◌<◌}
use Rattle.std.proofs.Common.{arith, lt-ltb, le-ltb}
use Rattle.std.proofs.lemmas.Bool.{lt-leb}
use Rattle.base.specs.First.{first, found, found_none, first_small}
use Rattle.base.specs.Outcome.{accepted, refused, refuse, returned}
use Rattle.base.specs.Width.{Width, admits}
use Rattle.line.specs.Line.{reaches, line}
use Rattle.line.specs.SampleFiltering.{sample_filtering}
use Rattle.wide_filter.specs.Taps.{tap, Within}

module _ (w : Width) (depth size limit blimit thresh : ℕ) (t : List ℕ) where
  pub line_depth : admits w depth ≡ false → line w depth size limit blimit thresh t ≡ refused 2 0
  unfolding line
  line_depth d = rw d

  module _ (d : admits w depth ≡ true) where
    pub line-sample : found (reaches (2 ^ depth) t) 16 ≡ true → line w depth size limit blimit thresh t ≡ refused 13 (first (reaches (2 ^ depth) t) 16)
    unfolding line
    line-sample s = rw (d, s)

    module _ (s : found (reaches (2 ^ depth) t) 16 ≡ false) where
      pub line_size : 2 < size → line w depth size limit blimit thresh t ≡ refused 15 0
      unfolding line
      line_size h = rw (d, s, lt-ltb 2 size h)

      pub line-filtered : size ≤ 2 → line w depth size limit blimit thresh t ≡ accepted (sample_filtering depth size limit blimit thresh t)
      unfolding line
      line-filtered h = rw (d, s, le-ltb 2 size h)

  -- a line in range of size at most 2 is accepted
  pub line_accepted : admits w depth ≡ true → Within (2 ^ depth) t → size ≤ 2 → line w depth size limit blimit thresh t ≡ accepted (sample_filtering depth size limit blimit thresh t)
  line_accepted d r h =
      line-filtered d (found_none (reaches (2 ^ depth) t) 16 (λ k p. lt-leb (2 ^ depth) (tap t k) (r.below k p))) h

  -- a place is a tap's, or 0
  pub line-place : (returned (line w depth size limit blimit thresh t)).place ≤ 16
  unfolding line
  line-place = cases (admits w depth) (found (reaches (2 ^ depth) t) 16) (ltb 2 size)
    where
      filtered : List ℕ
      filtered = sample_filtering depth size limit blimit thresh t

      cases : (d s z : Bool) → (returned (refuse (not d) 2 0 (refuse s 13 (first (reaches (2 ^ depth) t) 16) (refuse z 15 0 (accepted filtered))))).place ≤ 16
      cases false s z = omega arith
      cases true true z = first_small (reaches (2 ^ depth) t) 0 16
      cases true false true = omega arith
      cases true false false = omega arith
