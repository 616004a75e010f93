-- The sums of the wide filter as the code forms them, one side at a time.
-- Assumes nothing.
use Rattle.std.specs.Prelude.{◌≡◌, List, [], ◌∷◌, ℕ, zero, suc, ◌+◌, ◌-◌, ◌*◌, ◌/◌, ◌<◌, ◌≤◌, pos, negsuc, length}
use Rattle.std.proofs.Common.{arith}
use Rattle.base.specs.Notation.{clip3}
use Rattle.wide_filter.specs.Taps.{tap, p, q}
use Rattle.wide_filter.specs.WideFilter.{sum_to, smoothed}

-- x_0 + .. + x_m
abbrev pub sum : List ℕ → ℕ → ℕ
sum x zero = tap x 0
sum x (suc m) = sum x m + tap x (suc m)

-- the sample x_i where n change on each side, from the side x and the other side y, each counted from the edge
abbrev pub side : ℕ → List ℕ → List ℕ → ℕ → ℕ
side n x y i = (tap x n * (i + 1) + (sum x (n - 1) + (n + 1)) + tap x i + sum y (n - 1 - i)) / (2 * (n + 1))

-- each number of a list is at most b
pub record AtMost (b : ℕ) (x : List ℕ) : Type 0 where
  pub most : (k : ℕ) → tap x k ≤ b

pub most_none : {b : ℕ} → AtMost b []
most_none = record { most = λ k. omega arith }

pub most_next : {b x : ℕ} {t : List ℕ} → x < b + 1 → AtMost b t → AtMost b (x ∷ t)
most_next {b} {x} {t} h f = record { most = cases }
  where
    cases : (k : ℕ) → tap (x ∷ t) k ≤ b
    cases zero = omega arith
    cases (suc k) = f.most k

-- of a side x and the other y, each of m samples, r has what becomes of x
pub record Side (m : ℕ) (x y r : List ℕ) : Type 0 where
  pub long : length r ≡ m
  pub each : (i : ℕ) → i < m - 1 → tap r i ≡ side (m - 1) x y i

abbrev pub six : ℕ → ℕ → ℕ → ℕ → ℕ → ℕ → ℕ → ℕ → ℕ
six x3 x2 x1 x0 y0 y1 y2 = side 3 (x0 ∷ x1 ∷ x2 ∷ x3 ∷ []) (y0 ∷ y1 ∷ y2 ∷ [])

abbrev pub fourteen : ℕ → ℕ → ℕ → ℕ → ℕ → ℕ → ℕ → ℕ → ℕ → ℕ → ℕ → ℕ → ℕ → ℕ → ℕ → ℕ → ℕ
fourteen x7 x6 x5 x4 x3 x2 x1 x0 y0 y1 y2 y3 y4 y5 y6 = side 7 (x0 ∷ x1 ∷ x2 ∷ x3 ∷ x4 ∷ x5 ∷ x6 ∷ x7 ∷ []) (y0 ∷ y1 ∷ y2 ∷ y3 ∷ y4 ∷ y5 ∷ y6 ∷ [])

over : (d : ℕ) {a b : ℕ} → a ≡ b → a / d ≡ b / d
over d e = rw e

pub six_sums : (t : List ℕ) → (smoothed 3 t (negsuc 2) ≡ six (p t 3) (p t 2) (p t 1) (p t 0) (q t 0) (q t 1) (q t 2) 2) × (smoothed 3 t (negsuc 1) ≡ six (p t 3) (p t 2) (p t 1) (p t 0) (q t 0) (q t 1) (q t 2) 1) × (smoothed 3 t (negsuc 0) ≡ six (p t 3) (p t 2) (p t 1) (p t 0) (q t 0) (q t 1) (q t 2) 0) × (smoothed 3 t (pos 0) ≡ six (q t 3) (q t 2) (q t 1) (q t 0) (p t 0) (p t 1) (p t 2) 0) × (smoothed 3 t (pos 1) ≡ six (q t 3) (q t 2) (q t 1) (q t 0) (p t 0) (p t 1) (p t 2) 1) × (smoothed 3 t (pos 2) ≡ six (q t 3) (q t 2) (q t 1) (q t 0) (p t 0) (p t 1) (p t 2) 2)
unfolding smoothed sum_to clip3
six_sums t = (over 8 (omega arith), over 8 (omega arith), over 8 (omega arith), over 8 (omega arith), over 8 (omega arith), over 8 (omega arith))

pub fourteen_sums : (t : List ℕ) → (smoothed 4 t (negsuc 6) ≡ fourteen (p t 7) (p t 6) (p t 5) (p t 4) (p t 3) (p t 2) (p t 1) (p t 0) (q t 0) (q t 1) (q t 2) (q t 3) (q t 4) (q t 5) (q t 6) 6) × (smoothed 4 t (negsuc 5) ≡ fourteen (p t 7) (p t 6) (p t 5) (p t 4) (p t 3) (p t 2) (p t 1) (p t 0) (q t 0) (q t 1) (q t 2) (q t 3) (q t 4) (q t 5) (q t 6) 5) × (smoothed 4 t (negsuc 4) ≡ fourteen (p t 7) (p t 6) (p t 5) (p t 4) (p t 3) (p t 2) (p t 1) (p t 0) (q t 0) (q t 1) (q t 2) (q t 3) (q t 4) (q t 5) (q t 6) 4) × (smoothed 4 t (negsuc 3) ≡ fourteen (p t 7) (p t 6) (p t 5) (p t 4) (p t 3) (p t 2) (p t 1) (p t 0) (q t 0) (q t 1) (q t 2) (q t 3) (q t 4) (q t 5) (q t 6) 3) × (smoothed 4 t (negsuc 2) ≡ fourteen (p t 7) (p t 6) (p t 5) (p t 4) (p t 3) (p t 2) (p t 1) (p t 0) (q t 0) (q t 1) (q t 2) (q t 3) (q t 4) (q t 5) (q t 6) 2) × (smoothed 4 t (negsuc 1) ≡ fourteen (p t 7) (p t 6) (p t 5) (p t 4) (p t 3) (p t 2) (p t 1) (p t 0) (q t 0) (q t 1) (q t 2) (q t 3) (q t 4) (q t 5) (q t 6) 1) × (smoothed 4 t (negsuc 0) ≡ fourteen (p t 7) (p t 6) (p t 5) (p t 4) (p t 3) (p t 2) (p t 1) (p t 0) (q t 0) (q t 1) (q t 2) (q t 3) (q t 4) (q t 5) (q t 6) 0) × (smoothed 4 t (pos 0) ≡ fourteen (q t 7) (q t 6) (q t 5) (q t 4) (q t 3) (q t 2) (q t 1) (q t 0) (p t 0) (p t 1) (p t 2) (p t 3) (p t 4) (p t 5) (p t 6) 0) × (smoothed 4 t (pos 1) ≡ fourteen (q t 7) (q t 6) (q t 5) (q t 4) (q t 3) (q t 2) (q t 1) (q t 0) (p t 0) (p t 1) (p t 2) (p t 3) (p t 4) (p t 5) (p t 6) 1) × (smoothed 4 t (pos 2) ≡ fourteen (q t 7) (q t 6) (q t 5) (q t 4) (q t 3) (q t 2) (q t 1) (q t 0) (p t 0) (p t 1) (p t 2) (p t 3) (p t 4) (p t 5) (p t 6) 2) × (smoothed 4 t (pos 3) ≡ fourteen (q t 7) (q t 6) (q t 5) (q t 4) (q t 3) (q t 2) (q t 1) (q t 0) (p t 0) (p t 1) (p t 2) (p t 3) (p t 4) (p t 5) (p t 6) 3) × (smoothed 4 t (pos 4) ≡ fourteen (q t 7) (q t 6) (q t 5) (q t 4) (q t 3) (q t 2) (q t 1) (q t 0) (p t 0) (p t 1) (p t 2) (p t 3) (p t 4) (p t 5) (p t 6) 4) × (smoothed 4 t (pos 5) ≡ fourteen (q t 7) (q t 6) (q t 5) (q t 4) (q t 3) (q t 2) (q t 1) (q t 0) (p t 0) (p t 1) (p t 2) (p t 3) (p t 4) (p t 5) (p t 6) 5) × (smoothed 4 t (pos 6) ≡ fourteen (q t 7) (q t 6) (q t 5) (q t 4) (q t 3) (q t 2) (q t 1) (q t 0) (p t 0) (p t 1) (p t 2) (p t 3) (p t 4) (p t 5) (p t 6) 6)
unfolding smoothed sum_to clip3
fourteen_sums t = (over 16 (omega arith), over 16 (omega arith), over 16 (omega arith), over 16 (omega arith), over 16 (omega arith), over 16 (omega arith), over 16 (omega arith), over 16 (omega arith), over 16 (omega arith), over 16 (omega arith), over 16 (omega arith), over 16 (omega arith), over 16 (omega arith), over 16 (omega arith))
