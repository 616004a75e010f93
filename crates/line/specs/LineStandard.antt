-- The line of 16 samples is the standard's: masks, narrow filter and choice, for any depth, size and strength.
-- Assumes nothing.
use Rattle.std.specs.Prelude.{◌≡◌, refl, Bool, true, false, cond, not, ◌||◌, List, ℕ, zero, suc, ◌+◌, ◌-◌, ◌^◌, ◌≤◌, ◌<◌, eqb, ℤ, length, get_or}
use Rattle.std.proofs.Common.{sym, ⊎_elim, one-mul, arith, ext_get_or, le-ltb}
use Rattle.base.specs.Depth.{scaled}
use Rattle.base.specs.NotationLaws.{split}
use Rattle.section_8_8.specs.LoopFilterProcess as Std
use Rattle.line.specs.Masks.{hev_mask, filter_mask, flat_at, flat_mask, flat_mask2}
use Rattle.line.specs.NarrowFilter.{c, sample, narrow_filter}
use Rattle.wide_filter.specs.Taps.{p, q}
use Rattle.wide_filter.specs.WideFilterStandard.{taps_of, tap_p, tap_q}

-- ---- masks

pub hev_standard : (B thresh : ℕ) (l : Std.Line) → hev_mask (scaled B thresh) (taps_of l) ≡ Std.hev_mask B thresh l
unfolding hev_mask Std.hev_mask
hev_standard B thresh l = refl

pub mask_standard : (B limit blimit : ℕ) (l : Std.Line) → filter_mask (scaled B limit) (scaled B blimit) (taps_of l) ≡ Std.filter_mask B limit blimit l
unfolding filter_mask Std.filter_mask
mask_standard B limit blimit l = refl

pub flat_standard : (B : ℕ) (l : Std.Line) → flat_mask (scaled B 1) (taps_of l) ≡ Std.flat_mask B l
unfolding flat_mask flat_at Std.flat_mask
flat_standard B l = refl

pub flat2_standard : (B : ℕ) (l : Std.Line) → flat_mask2 (scaled B 1) (taps_of l) ≡ Std.flat_mask2 B l
unfolding flat_mask2 flat_at Std.flat_mask2
flat2_standard B l = refl

-- ---- the narrow filter

-- the standard writes 1 << (B - 1) for 2 ^ (B - 1)
c_standard : (B : ℕ) (v : ℤ) → c B v ≡ Std.c B v
unfolding c Std.c
c_standard B v = rw (one-mul (2 ^ (B - 1)))

sample_standard : (B : ℕ) (v : ℤ) → sample B v ≡ Std.sample B v
unfolding sample Std.sample
sample_standard B v = rw (c_standard B v)

pub narrow_standard : (B : ℕ) (hev : Bool) (l : Std.Line) → narrow_filter B hev (taps_of l) ≡ taps_of (Std.narrow_filter B hev l)
unfolding narrow_filter Std.narrow_filter
narrow_standard B true l = simp (c_standard, sample_standard) refl
narrow_standard B false l = simp (c_standard, sample_standard) refl

-- ---- the choice

-- ---- a list of 16 samples as a line

abbrev pub line_of : List ℕ → Std.Line
line_of t = record { p = p t; q = q t }

pub taps_line : (t : List ℕ) → length t ≡ 16 → taps_of (line_of t) ≡ t
taps_line t e = ext_get_or 0 (taps_of (line_of t)) t (sym e) same
  where
    same : (k : ℕ) → k < 16 → get_or (taps_of (line_of t)) k 0 ≡ get_or t k 0
    same k h =
        ⊎_elim
        (λ (g : k < 8). let place : 7 - (7 - k) ≡ k = omega arith in rw place at (tap_p (line_of t) k g))
        (λ (g : 8 ≤ k). let place : 8 + (k - 8) ≡ k = omega arith in rw place at (tap_q (line_of t) k g h))
        (split k 8)

-- ---- taps that never change

-- the narrow filter changes the first two taps of a side
first_two_lem : (a b : ℕ) (side : ℕ → ℕ) (k : ℕ) → 2 ≤ k → Std.first_two a b side k ≡ side k
first_two_lem a b side zero h = absurd (omega arith)
first_two_lem a b side (suc zero) h = absurd (omega arith)
first_two_lem a b side (suc (suc k)) h = refl

-- p7, q7 and all beyond are kept, whichever filter is chosen
pub beyond_kept : (B size limit blimit thresh : ℕ) (l : Std.Line) (k : ℕ) → 7 ≤ k → ((Std.sample_filtering B size limit blimit thresh l).p k ≡ l.p k) × ((Std.sample_filtering B size limit blimit thresh l).q k ≡ l.q k)
unfolding Std.sample_filtering Std.narrow_filter Std.wide_filter
beyond_kept B size limit blimit thresh l k h =
    cases (Std.filter_mask B limit blimit l) (eqb size 0 || not (Std.flat_mask B l)) (eqb size 1 || not (Std.flat_mask2 B l))
  where
    Kept : Std.Line → Type 0
    Kept m = (m.p k ≡ l.p k) × (m.q k ≡ l.q k)

    cases : (m f g : Bool) → Kept (cond (not m) l (cond f (Std.narrow_filter B (Std.hev_mask B thresh l) l) (cond g (Std.wide_filter 3 l) (Std.wide_filter 4 l))))
    cases false f g = (refl, refl)
    cases true true g = (first_two_lem _ _ l.p k (omega arith), first_two_lem _ _ l.q k (omega arith))
    cases true false true = rw (le-ltb k 3 (omega arith)) (refl, refl)
    cases true false false = rw (le-ltb k 7 h) (refl, refl)
