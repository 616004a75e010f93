-- Laws of the sample filtering process, for its users.
-- Assumes nothing.
use Rattle.std.specs.Prelude.{◌≡◌, Bool, cond, ◌||◌, List, ◌++◌, ◌⊎◌, ℕ, zero, suc, ◌+◌, ◌^◌, ◌≤◌, ◌<◌, T, length}
use Rattle.std.proofs.Math.Path.{refl}
use Rattle.std.proofs.Common.{sym, ◌∙◌, subst, ⊎_elim, inl, inr, arith, ne_eqb}
use Rattle.std.proofs.Math.Bool.{true, false, not}
use Rattle.std.proofs.Math.Decide.{dec_lt}
use Rattle.std.proofs.Math.Dec.{eqb}
use Rattle.base.specs.Depth.{supported, scaled}
use Rattle.line.specs.Masks.{hev_mask, filter_mask, flat_mask, flat_mask2}
use Rattle.line.specs.MasksLaws.{hev_agree, mask_agree, flat_agree, flat2_agree}
use Rattle.line.specs.NarrowFilter.{narrow_filter}
use Rattle.line.specs.NarrowFilterLaws.{narrow_length, narrow_below, narrow_kept, narrow_agree, narrow_front}
use Rattle.line.specs.SampleFiltering.{sample_filtering}
use Rattle.wide_filter.specs.Taps.{tap, Within, Agree, agree_front}
use Rattle.wide_filter.specs.WideFilter.{wide_filter}
use Rattle.wide_filter.specs.WideFilterLaws.{wide_length, wide_below, wide_kept, wide_agree, wide_front}

-- what a size is not
from_1 : (size : ℕ) → eqb size 0 ≡ false → 1 ≤ size
from_1 zero e = absurd (subst T e tt)
from_1 (suc n) e = omega arith

from_2 : (size : ℕ) → eqb size 0 ≡ false → eqb size 1 ≡ false → 2 ≤ size
from_2 zero e f = absurd (subst T e tt)
from_2 (suc zero) e f = absurd (subst T f tt)
from_2 (suc (suc n)) e f = omega arith

-- how many taps of each side can change: p1 to q1 at size 0, p2 to q2 at 1, p6 to q6 at 2
abbrev pub changes : ℕ → ℕ
changes zero = 2
changes (suc zero) = 3
changes (suc (suc n)) = 7

-- how many are read
abbrev pub reads : ℕ → ℕ
reads zero = 4
reads (suc zero) = 4
reads (suc (suc n)) = 8

changes_narrow : (hev : Bool) (size : ℕ) → cond hev 1 2 ≤ changes size
changes_narrow true zero = omega arith
changes_narrow true (suc zero) = omega arith
changes_narrow true (suc (suc n)) = omega arith
changes_narrow false zero = omega arith
changes_narrow false (suc zero) = omega arith
changes_narrow false (suc (suc n)) = omega arith

changes-six : (size : ℕ) → 1 ≤ size → 3 ≤ changes size
changes-six zero h = elim h [ ]
changes-six (suc zero) h = omega arith
changes-six (suc (suc n)) h = omega arith

changes-fourteen : (size : ℕ) → 2 ≤ size → 7 ≤ changes size
changes-fourteen zero h = elim h [ ]
changes-fourteen (suc zero) h = absurd (omega arith)
changes-fourteen (suc (suc n)) h = omega arith

reads_small : (size : ℕ) → 4 ≤ reads size
reads_small zero = omega arith
reads_small (suc zero) = omega arith
reads_small (suc (suc n)) = omega arith

reads_all : (size : ℕ) → 2 ≤ size → 8 ≤ reads size
reads_all zero h = elim h [ ]
reads_all (suc zero) h = absurd (omega arith)
reads_all (suc (suc n)) h = omega arith

-- what is outside more taps is outside fewer
outside_fewer : (m n k : ℕ) → n ≤ m → (k + m < 8) ⊎ (8 + m ≤ k) → (k + n < 8) ⊎ (8 + n ≤ k)
outside_fewer m n k h = ⊎_elim (λ p. inl (omega arith)) (λ p. inr (omega arith))

module _ (B size limit blimit thresh : ℕ) (t : List ℕ) where
  -- ---- what each arm gives

  -- where the mask fails nothing changes
  pub filters_none : filter_mask (scaled B limit) (scaled B blimit) t ≡ false → t ≡ sample_filtering B size limit blimit thresh t
  unfolding sample_filtering
  filters_none m = rw m

  module _ (m : filter_mask (scaled B limit) (scaled B blimit) t ≡ true) where
    pub filters_narrow : eqb size 0 || not (flat_mask (scaled B 1) t) ≡ true → narrow_filter B (hev_mask (scaled B thresh) t) t ≡ sample_filtering B size limit blimit thresh t
    unfolding sample_filtering
    filters_narrow f = rw (m, f)

    module _ (f : eqb size 0 || not (flat_mask (scaled B 1) t) ≡ false) where
      pub filters-six : eqb size 1 || not (flat_mask2 (scaled B 1) t) ≡ true → wide_filter 3 t ≡ sample_filtering B size limit blimit thresh t
      unfolding sample_filtering
      filters-six g = rw (m, f, g)

      pub filters-fourteen : eqb size 1 || not (flat_mask2 (scaled B 1) t) ≡ false → wide_filter 4 t ≡ sample_filtering B size limit blimit thresh t
      unfolding sample_filtering
      filters-fourteen g = rw (m, f, g)

  -- what holds of every arm that a size can reach holds of the result
  by_arms : (P : List ℕ → Type 0) → P t → P (narrow_filter B (hev_mask (scaled B thresh) t) t) → (1 ≤ size → P (wide_filter 3 t)) → (2 ≤ size → P (wide_filter 4 t)) → P (sample_filtering B size limit blimit thresh t)
  unfolding sample_filtering
  by_arms P none narrow six fourteen =
      cases (filter_mask (scaled B limit) (scaled B blimit) t) (flat_mask (scaled B 1) t) (flat_mask2 (scaled B 1) t) (eqb size 0) (eqb size 1) refl refl
    where
      cases : (m f g z o : Bool) → eqb size 0 ≡ z → eqb size 1 ≡ o → P (cond m (cond (z || not f) (narrow_filter B (hev_mask (scaled B thresh) t) t) (cond (o || not g) (wide_filter 3 t) (wide_filter 4 t))) t)
      cases false f g z o e d = none
      cases true f g true o e d = narrow
      cases true false g false o e d = narrow
      cases true true g false true e d = six (from_1 size e)
      cases true true false false false e d = six (from_1 size e)
      cases true true true false false e d = fourteen (from_2 size e d)

  -- ---- the line after

  -- there are as many samples as before
  pub filters-length : length (sample_filtering B size limit blimit thresh t) ≡ length t
  filters-length =
      by_arms (λ (u : List ℕ). length u ≡ length t) refl (narrow_length B (hev_mask (scaled B thresh) t) t) (λ h. wide_length 3 t) (λ h. wide_length 4 t)

  -- samples in range stay in range
  pub filters_within : supported B ≡ true → Within (2 ^ B) t → Within (2 ^ B) (sample_filtering B size limit blimit thresh t)
  filters_within known w =
      by_arms (Within (2 ^ B)) w (narrow_below B (hev_mask (scaled B thresh) t) t known w) (λ h. (wide_below (2 ^ B) t w).0) (λ h. (wide_below (2 ^ B) t w).1)

  -- taps that cannot change at this size are kept
  pub filters_kept : (k : ℕ) → (k + changes size < 8) ⊎ (8 + changes size ≤ k) → tap (sample_filtering B size limit blimit thresh t) k ≡ tap t k
  filters_kept k h =
      let hev = hev_mask (scaled B thresh) t in
      by_arms (λ (u : List ℕ). tap u k ≡ tap t k)
      refl
      (narrow_kept B hev t k (outside_fewer (changes size) (cond hev 1 2) k (changes_narrow hev size) h))
      (λ g. wide_kept 3 t k (outside_fewer (changes size) 3 k (changes-six size g) h))
      (λ g. wide_kept 4 t k (outside_fewer (changes size) 7 k (changes-fourteen size g) h))

  -- where the variance is high the narrow filter changes p0 and q0 alone
  pub filters_kept_high : hev_mask (scaled B thresh) t ≡ true → eqb size 0 || not (flat_mask (scaled B 1) t) ≡ true → (k : ℕ) → (k + 1 < 8) ⊎ (8 + 1 ≤ k) → tap (sample_filtering B size limit blimit thresh t) k ≡ tap t k
  unfolding sample_filtering
  filters_kept_high v f k h = rw (f, v) (cases (filter_mask (scaled B limit) (scaled B blimit) t))
    where
      cases : (m : Bool) → tap (cond m (narrow_filter B true t) t) k ≡ tap t k
      cases false = refl
      cases true = narrow_kept B true t k h

-- the line depends only on the taps that its size reads
pub filters_agree : (B size limit blimit thresh : ℕ) (t u : List ℕ) → length t ≡ length u → Agree (reads size) t u → Agree (reads size) (sample_filtering B size limit blimit thresh t) (sample_filtering B size limit blimit thresh u)
unfolding sample_filtering
filters_agree B size limit blimit thresh t u e a =
    let r = reads size in
    let four = reads_small size in
    rw (
      mask_agree r t u a (scaled B limit) (scaled B blimit) four,
      flat_agree r t u a (scaled B 1) four,
      hev_agree r t u a (scaled B thresh) (omega arith),
    )
    (cases (filter_mask (scaled B limit) (scaled B blimit) u) (flat_mask (scaled B 1) u) (flat_mask2 (scaled B 1) t) (flat_mask2 (scaled B 1) u) (eqb size 0) (eqb size 1) (λ h. flat2_agree r t u a (scaled B 1) (reads_all size h)) refl refl)
  where
    hev : Bool
    hev = hev_mask (scaled B thresh) u

    narrow : Agree (reads size) (narrow_filter B hev t) (narrow_filter B hev u)
    narrow = let four = reads_small size in narrow_agree B hev (reads size) t u (omega arith) e a

    six : Agree (reads size) (wide_filter 3 t) (wide_filter 3 u)
    six = (wide_agree (reads size) t u e a).0 (reads_small size)

    last : 2 ≤ size → (h : Bool) → Agree (reads size) (cond (not h) (wide_filter 3 t) (wide_filter 4 t)) (cond (not h) (wide_filter 3 u) (wide_filter 4 u))
    last two false = six
    last two true = (wide_agree (reads size) t u e a).1 (reads_all size two)

    cases : (m f g h z o : Bool) → (2 ≤ size → g ≡ h) → eqb size 0 ≡ z → eqb size 1 ≡ o → Agree (reads size) (cond m (cond (z || not f) (narrow_filter B hev t) (cond (o || not g) (wide_filter 3 t) (wide_filter 4 t))) t) (cond m (cond (z || not f) (narrow_filter B hev u) (cond (o || not h) (wide_filter 3 u) (wide_filter 4 u))) u)
    cases false f g h z o s p q = a
    cases true f g h true o s p q = narrow
    cases true false g h false o s p q = narrow
    cases true true g h false true s p q = six
    cases true true g h false false s p q = rw (s (from_2 size p q)) (last (from_2 size p q) h)

-- each size above 1 filters as 2 does
pub filters_large : (B size limit blimit thresh : ℕ) (t : List ℕ) → 2 ≤ size → sample_filtering B size limit blimit thresh t ≡ sample_filtering B 2 limit blimit thresh t
unfolding sample_filtering
filters_large B size limit blimit thresh t h = rw (ne_eqb size 0 (λ e. omega arith), ne_eqb size 1 (λ e. omega arith))

-- ---- one tap

pub changes-read : (size : ℕ) → changes size ≤ reads size
changes-read zero = omega arith
changes-read (suc zero) = omega arith
changes-read (suc (suc n)) = omega arith

pub reads_few : (size : ℕ) → reads size ≤ 8
reads_few zero = omega arith
reads_few (suc zero) = omega arith
reads_few (suc (suc n)) = omega arith

-- a tap that two lines share is the same after, where they agree on the taps that the size reads
pub filters_same : (B size limit blimit thresh : ℕ) (t u : List ℕ) → length t ≡ length u → Agree (reads size) t u → (k : ℕ) → tap t k ≡ tap u k → tap (sample_filtering B size limit blimit thresh t) k ≡ tap (sample_filtering B size limit blimit thresh u) k
filters_same B size limit blimit thresh t u e a k same = cases (dec_lt (k + reads size) 8) (dec_lt k (8 + reads size))
  where
    kept : (k + changes size < 8) ⊎ (8 + changes size ≤ k) → tap (sample_filtering B size limit blimit thresh t) k ≡ tap (sample_filtering B size limit blimit thresh u) k
    kept h = filters_kept B size limit blimit thresh t k h ∙ same ∙ sym (filters_kept B size limit blimit thresh u k h)

    cases : Dec (k + reads size < 8) → Dec (k < 8 + reads size) → tap (sample_filtering B size limit blimit thresh t) k ≡ tap (sample_filtering B size limit blimit thresh u) k
    cases (yes p) q = kept (inl (omega (arith, changes-read size)))
    cases (no p) (no q) = kept (inr (omega (arith, changes-read size)))
    cases (no p) (yes q) = (filters_agree B size limit blimit thresh t u e a).same k (omega arith) q

-- ---- a list that goes on behind the line

-- the line filters its first 16 samples, and leaves the others
pub filters-front : (B size limit blimit thresh : ℕ) (t r : List ℕ) → length t ≡ 16 → sample_filtering B size limit blimit thresh (t ++ r) ≡ sample_filtering B size limit blimit thresh t ++ r
unfolding sample_filtering
filters-front B size limit blimit thresh t r e =
    let a = agree_front t r e in
    rw (
      mask_agree 8 (t ++ r) t a (scaled B limit) (scaled B blimit) (omega arith),
      flat_agree 8 (t ++ r) t a (scaled B 1) (omega arith),
      flat2_agree 8 (t ++ r) t a (scaled B 1) (omega arith),
      hev_agree 8 (t ++ r) t a (scaled B thresh) (omega arith),
    )
    (cases (filter_mask (scaled B limit) (scaled B blimit) t) (eqb size 0 || not (flat_mask (scaled B 1) t)) (eqb size 1 || not (flat_mask2 (scaled B 1) t)))
  where
    hev : Bool
    hev = hev_mask (scaled B thresh) t

    cases : (m f g : Bool) → cond m (cond f (narrow_filter B hev (t ++ r)) (cond g (wide_filter 3 (t ++ r)) (wide_filter 4 (t ++ r)))) (t ++ r) ≡ cond m (cond f (narrow_filter B hev t) (cond g (wide_filter 3 t) (wide_filter 4 t))) t ++ r
    cases false f g = refl
    cases true true g = narrow_front B hev t r e
    cases true false true = (wide_front t r e).0
    cases true false false = (wide_front t r e).1
