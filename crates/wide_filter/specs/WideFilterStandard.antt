-- The taps of the standard's line as a list, and the wide filter on them: it is the standard's.
-- Assumes nothing.
use Rattle.std.specs.Prelude.{◌≡◌, refl, List, [], ◌∷◌, ℕ, zero, suc, ◌+◌, ◌-◌, ◌≤◌, ◌<◌, ℤ, pos, negsuc, ◌+ℤ◌, ◌-ℤ◌}
use Rattle.std.proofs.Common.{arith}
use Rattle.std.specs.Int.Signed.{mag}
use Rattle.base.specs.Notation.{clip3}
use Rattle.base.specs.NotationLaws.{mag_clip}
use Rattle.section_8_8.specs.LoopFilterProcess as Std
use Rattle.wide_filter.specs.Taps.{tap, p, q, f_at}
use Rattle.wide_filter.specs.WideFilter.{sum_to}

-- p7 to p0, and then q0 to q7
abbrev pub taps_of : Std.Line → List ℕ
taps_of l =
    l.p 7 ∷ l.p 6 ∷ l.p 5 ∷ l.p 4 ∷ l.p 3 ∷ l.p 2 ∷ l.p 1 ∷ l.p 0
    ∷ l.q 0 ∷ l.q 1 ∷ l.q 2 ∷ l.q 3 ∷ l.q 4 ∷ l.q 5 ∷ l.q 6 ∷ l.q 7 ∷ []

-- ---- each tap of the list

-- what holds of 0 to 7 holds of each number below 8
eight : (P : ℕ → Type 0) → P 0 → P 1 → P 2 → P 3 → P 4 → P 5 → P 6 → P 7 → (k : ℕ) → k < 8 → P k
eight P a b c d e f g h zero s = a
eight P a b c d e f g h (suc zero) s = b
eight P a b c d e f g h (suc (suc zero)) s = c
eight P a b c d e f g h (suc (suc (suc zero))) s = d
eight P a b c d e f g h (suc (suc (suc (suc zero)))) s = e
eight P a b c d e f g h (suc (suc (suc (suc (suc zero))))) s = f
eight P a b c d e f g h (suc (suc (suc (suc (suc (suc zero)))))) s = g
eight P a b c d e f g h (suc (suc (suc (suc (suc (suc (suc zero))))))) s = h
eight P a b c d e f g h (suc (suc (suc (suc (suc (suc (suc (suc k)))))))) s = absurd (omega arith)

-- p_k and q_k
pub taps_p : (l : Std.Line) (k : ℕ) → k < 8 → p (taps_of l) k ≡ l.p k
taps_p l = eight (λ k. p (taps_of l) k ≡ l.p k) refl refl refl refl refl refl refl refl

pub taps_q : (l : Std.Line) (k : ℕ) → k < 8 → q (taps_of l) k ≡ l.q k
taps_q l = eight (λ k. q (taps_of l) k ≡ l.q k) refl refl refl refl refl refl refl refl

-- the tap at place k
pub tap_p : (l : Std.Line) (k : ℕ) → k < 8 → tap (taps_of l) k ≡ l.p (7 - k)
tap_p l = eight (λ k. tap (taps_of l) k ≡ l.p (7 - k)) refl refl refl refl refl refl refl refl

pub tap_q : (l : Std.Line) (k : ℕ) → 8 ≤ k → k < 16 → tap (taps_of l) k ≡ l.q (k - 8)
tap_q l k h g = let place : 8 + (k - 8) ≡ k = omega arith in rw place at (taps_q l (k - 8) (omega arith))

-- ---- the wide filter

f_at-standard : (l : Std.Line) (z : ℤ) → mag z < 8 → f_at (taps_of l) z ≡ Std.f_at l z
f_at-standard l (pos k) h = taps_q l k h
f_at-standard l (negsuc k) h = taps_p l k h

-- no sum reads past p_n and q_n
pub sum_standard : (n : ℕ) (l : Std.Line) (i : ℤ) (m : ℕ) → n ≤ 7 → sum_to n (taps_of l) i m ≡ Std.sum_to n l i m
unfolding sum_to Std.sum_to
sum_standard n l i zero h = refl
sum_standard n l i (suc m) h =
    let z = i +ℤ (pos m -ℤ pos n) in
    let near : mag (clip3 (negsuc n) (pos n) z) < suc n = mag_clip (negsuc n) (pos n) z (omega arith) (omega arith) in
    rw (sum_standard n l i m h, f_at-standard l (clip3 (negsuc n) (pos n) z) (omega arith))
