-- The line at both widths of samples: over a lent list, over bytes, and over the same samples at either width.
-- Assumes nothing.
use Rattle.std.specs.Prelude.{◌≡◌, refl, true, false, not, List, ℕ, ◌^◌, ◌≤◌, ◌<◌, ltb, length}
use Rattle.std.proofs.Common.{arith, lt-ltb, le-ltb}
use Rattle.std.proofs.lemmas.Bool.{lt-leb}
use Rattle.base.specs.Depth.{supported}
use Rattle.base.specs.First.{found, found_none}
use Rattle.base.specs.Outcome.{accepted, refused, returned}
use Rattle.base.specs.OutcomeLaws.{refuse-place}
use Rattle.base.specs.Width.{Width, Byte, U16, admits, Ranged, byte_range}
use Rattle.line.specs.Line.{reaches, line, lent_line}
use Rattle.line.specs.LineLaws.{line_size, line-filtered, line-place}
use Rattle.line.specs.SampleFiltering.{sample_filtering}

-- ---- the line over a lent list

module _ (w : Width) (depth size limit blimit thresh : ℕ) (t : List ℕ) where
  pub lent_depth : admits w depth ≡ false → lent_line w depth size limit blimit thresh t ≡ refused 2 0
  unfolding lent_line
  lent_depth d = rw d

  module _ (d : admits w depth ≡ true) where
    pub lent_short : length t < 16 → lent_line w depth size limit blimit thresh t ≡ refused 7 0
    unfolding lent_line
    lent_short h = rw (d, lt-ltb (length t) 16 h)

    pub lent_line_lem : 16 ≤ length t → lent_line w depth size limit blimit thresh t ≡ line w depth size limit blimit thresh t
    unfolding lent_line
    lent_line_lem h = rw (d, le-ltb (length t) 16 h)

  -- a place is a tap's, or 0
  pub lent_place : (returned (lent_line w depth size limit blimit thresh t)).place ≤ 16
  unfolding lent_line
  lent_place = refuse-place 16 (not (admits w depth)) 2 0 _ (λ e. omega arith) (λ d. refuse-place 16 (ltb (length t) 16) 7 0 _ (λ e. omega arith) (λ h. line-place w depth size limit blimit thresh t))

-- ---- bytes are in range, so the search for 13 finds nothing

module _ (depth size limit blimit thresh : ℕ) (t : List ℕ) (d : admits Byte depth ≡ true) (r : Ranged Byte t) where
  byte_taps : found (reaches (2 ^ depth) t) 16 ≡ false
  byte_taps = found_none (reaches (2 ^ depth) t) 16 (λ k h. lt-leb (2 ^ depth) _ (byte_range depth d r k))

  pub byte_size : 2 < size → line Byte depth size limit blimit thresh t ≡ refused 15 0
  byte_size = line_size Byte depth size limit blimit thresh t d byte_taps

  pub byte_filtered : size ≤ 2 → line Byte depth size limit blimit thresh t ≡ accepted (sample_filtering depth size limit blimit thresh t)
  byte_filtered = line-filtered Byte depth size limit blimit thresh t d byte_taps

-- ---- THE SAME ANSWERS: over bytes and over the same samples as u16, at the depth that both admit

pub same_line : (size limit blimit thresh : ℕ) (t : List ℕ) → line Byte 8 size limit blimit thresh t ≡ line U16 8 size limit blimit thresh t
unfolding line supported
same_line size limit blimit thresh t = refl
