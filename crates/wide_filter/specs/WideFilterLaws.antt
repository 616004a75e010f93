-- Laws of the wide filter: how many samples it leaves, in which range, which it keeps, and which it reads; and that it leaves what
-- stands behind the line.
-- Assumes nothing.
use Rattle.std.specs.Prelude.{◌≡◌, refl, Bool, true, false, cond, List, ◌++◌, ◌⊎◌, eqb, ℤ, pos, negsuc, ◌+ℤ◌, ◌-ℤ◌, length, ℕ, zero, suc, ◌+◌, ◌-◌, ◌*◌, ◌≤◌, ◌<◌}
use Rattle.std.proofs.Common.{◌∙◌, inl, inr, eq-eqb, ne_eqb, arith}
use Rattle.std.proofs.Math.Logic.{⊎_elim}
use Rattle.std.proofs.Math.Nat.{mul-suc}
use Rattle.std.proofs.lemmas.List.{set-append_left}
use Rattle.std.specs.Int.Signed.{mag}
use Rattle.base.specs.Filled.{filled, length-filled, filled_same, filled_other, filled-below, filled_agree}
use Rattle.base.specs.Notation.{clip3}
use Rattle.base.specs.NotationLaws.{split, mag_clip}
use Rattle.wide_filter.specs.Taps.{tap, f_at, Within, Agree, agree_less, agree_front}
use Rattle.wide_filter.specs.WideFilter.{reach, sum_to, smoothed, wide_filter}

-- ---- the samples that a sum reads

f_at-below : (b n : ℕ) (t : List ℕ) → n ≤ 7 → Within b t → (z : ℤ) → mag z < suc n → f_at t z < b
f_at-below b n t h w (pos k) m = w.below (8 + k) (omega arith)
f_at-below b n t h w (negsuc k) m = w.below (7 - k) (omega arith)

f_at-agree : (n : ℕ) (t u : List ℕ) → n ≤ 7 → Agree (suc n) t u → (z : ℤ) → mag z < suc n → f_at t z ≡ f_at u z
f_at-agree n t u h a (pos k) m = a.same (8 + k) (omega arith) (omega arith)
f_at-agree n t u h a (negsuc k) m = a.same (7 - k) (omega arith) (omega arith)

clipped : (n : ℕ) (z : ℤ) → mag (clip3 (negsuc n) (pos n) z) < suc n
clipped n z = mag_clip (negsuc n) (pos n) z (omega arith) (omega arith)

-- ---- sums

module _ (b n : ℕ) (t : List ℕ) (i : ℤ) (h : n ≤ 7) (w : Within b t) where
  term : (m : ℕ) → f_at t (clip3 (negsuc n) (pos n) (i +ℤ (pos m -ℤ pos n))) < b
  term m = let z = i +ℤ (pos m -ℤ pos n) in f_at-below b n t h w (clip3 (negsuc n) (pos n) z) (clipped n z)

  -- up to the middle term
  sum_low : (m : ℕ) → m ≤ n → sum_to n t i m + m ≤ b * m
  unfolding sum_to
  sum_low zero g = omega arith
  sum_low (suc m) g =
      let other : m ≡ n → ⊥ = λ e. omega arith in
      rw (ne_eqb m n other) (omega (arith, sum_low m (omega arith), term m, mul-suc b m))

  -- and past it, which counts twice
  sum_high : (m : ℕ) → n < m → sum_to n t i m + suc m ≤ b * suc m
  unfolding sum_to
  sum_high zero g = elim g [ ]
  sum_high (suc m) g =
      ⊎_elim
      (λ (q : n < m).
      let other : m ≡ n → ⊥ = λ e. omega arith in
      rw (ne_eqb m n other) (omega (arith, sum_high m q, term m, mul-suc b (suc m))))
      (λ (q : m ≤ n).
      rw (eq-eqb m n (omega arith))
      (omega (arith, sum_low m q, term m, mul-suc b m, mul-suc b (suc m))))
      (split n m)

sum_agree : (n : ℕ) (t u : List ℕ) (i : ℤ) (m : ℕ) → n ≤ 7 → Agree (suc n) t u → sum_to n t i m ≡ sum_to n u i m
unfolding sum_to
sum_agree n t u i zero h a = refl
sum_agree n t u i (suc m) h a =
    let z = i +ℤ (pos m -ℤ pos n) in
    rw (sum_agree n t u i m h a, f_at-agree n t u h a (clip3 (negsuc n) (pos n) z) (clipped n z))

-- ---- one sample

smoothed-below : (b : ℕ) (t : List ℕ) → Within b t → (i : ℤ) → (smoothed 3 t i < b) × (smoothed 4 t i < b)
unfolding smoothed
smoothed-below b t w i =
    (omega (arith, sum_high b 3 t i (omega arith) w 7 (omega arith)), omega (arith, sum_high b 7 t i (omega arith) w 15 (omega arith)))

smoothed_agree : (t u : List ℕ) (i : ℤ) → (Agree 4 t u → smoothed 3 t i ≡ smoothed 3 u i) × (Agree 8 t u → smoothed 4 t i ≡ smoothed 4 u i)
unfolding smoothed
smoothed_agree t u i =
    ((λ a. rw (sum_agree 3 t u i 7 (omega arith) a)), (λ a. rw (sum_agree 7 t u i 15 (omega arith) a)))

-- ---- the line

pub wide_length : (log2_size : ℕ) (t : List ℕ) → length (wide_filter log2_size t) ≡ length t
unfolding wide_filter
wide_length log2_size t = length-filled _ _ _ t

reach_small : (log2_size : ℕ) → reach log2_size ≤ 7
reach_small log2_size = cases (eqb log2_size 3)
  where
    cases : (b : Bool) → cond b 3 7 ≤ 7
    cases true = omega arith
    cases false = omega arith

-- of p_k and q_k those from k = n on are kept
pub wide_kept : (log2_size : ℕ) (t : List ℕ) (k : ℕ) → (k + reach log2_size < 8) ⊎ (8 + reach log2_size ≤ k) → tap (wide_filter log2_size t) k ≡ tap t k
unfolding wide_filter
wide_kept log2_size t k h =
    let small = reach_small log2_size in
    filled_other _ (8 - reach log2_size) (2 * reach log2_size) t k (⊎_elim (λ p. inl (omega arith)) (λ p. inr (omega arith)) h)

pub wide_below : (b : ℕ) (t : List ℕ) → Within b t → Within b (wide_filter 3 t) × Within b (wide_filter 4 t)
unfolding wide_filter
wide_below b t w = (
  record { below = λ k h. filled-below b _ 5 6 t k (λ j. (smoothed-below b t w (pos j -ℤ pos 8)).0) (w.below k h) },
  record { below = λ k h. filled-below b _ 1 14 t k (λ j. (smoothed-below b t w (pos j -ℤ pos 8)).1) (w.below k h) },
)

pub wide_agree : (r : ℕ) (t u : List ℕ) → length t ≡ length u → Agree r t u → (4 ≤ r → Agree r (wide_filter 3 t) (wide_filter 3 u)) × (8 ≤ r → Agree r (wide_filter 4 t) (wide_filter 4 u))
unfolding wide_filter
wide_agree r t u e a = (
  (λ h. record { same = λ k p q. filled_agree _ _ 5 6 t u k (λ j. (smoothed_agree t u (pos j -ℤ pos 8)).0 (agree_less r 4 t u h a)) e (a.same k p q) }),
  (λ h. record { same = λ k p q. filled_agree _ _ 1 14 t u k (λ j. (smoothed_agree t u (pos j -ℤ pos 8)).1 (agree_less r 8 t u h a)) e (a.same k p q) }),
)

-- ---- a list that goes on behind the line

filled-front : (f : ℕ → ℕ) (s n : ℕ) (t r : List ℕ) → s + n ≤ length t → filled f s n (t ++ r) ≡ filled f s n t ++ r
unfolding filled
filled-front f s zero t r h = refl
filled-front f s (suc n) t r h =
    rw (filled-front f s n t r (omega arith)) (set-append_left (filled f s n t) r (s + n) (f (s + n)) (omega (arith, length-filled f s n t)))

pub wide_front : (t r : List ℕ) → length t ≡ 16 → (wide_filter 3 (t ++ r) ≡ wide_filter 3 t ++ r) × (wide_filter 4 (t ++ r) ≡ wide_filter 4 t ++ r)
unfolding wide_filter
wide_front t r e =
    let a = agree_front t r e in (
      filled_same _ _ 5 6 (t ++ r) (λ k h. (smoothed_agree (t ++ r) t (pos (5 + k) -ℤ pos 8)).0 (agree_less 8 4 (t ++ r) t (omega arith) a))
          ∙ filled-front _ 5 6 t r (omega arith),
      filled_same _ _ 1 14 (t ++ r) (λ k h. (smoothed_agree (t ++ r) t (pos (1 + k) -ℤ pos 8)).1 a) ∙ filled-front _ 1 14 t r (omega arith),
    )
