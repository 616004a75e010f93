-- Sums of the first samples of a side, and how great they are.
-- Assumes nothing.
use Rattle.std.specs.Prelude.{◌≡◌, List, ℕ, zero, suc, ◌+◌, ◌-◌, ◌*◌, ◌/◌, ◌<◌, ◌≤◌, length, set}
use Rattle.std.proofs.Common.{ap, ◌∙◌, ⊎_elim, arith, mul-le-mul_right, add-mul, add-one, zero-add, get_or-set_same, get_or-set_other}
use Rattle.base.specs.NotationLaws.{split}
use Rattle.wide_filter.specs.Taps.{tap}
use Rattle.wide_filter.specs.WideSums.{sum, side, AtMost}

-- x_0 + .. + x_( k - 1 )
abbrev pub total : List ℕ → ℕ → ℕ
total x zero = 0
total x (suc k) = total x k + tap x k

pub total_more : (x : List ℕ) (k : ℕ) → total x (k + 1) ≡ total x k + tap x k
total_more x k = rw add-one

pub total_sum : (x : List ℕ) (m : ℕ) → sum x m ≡ total x (suc m)
total_sum x zero = rw zero-add
total_sum x (suc m) = rw (total_sum x m)

pub total_most : (b : ℕ) (x : List ℕ) (k : ℕ) → AtMost b x → total x k ≤ k * b
total_most b x zero a = omega arith
total_most b x (suc k) a = omega (arith, total_most b x k a, a.most k, add-mul k 1 b)

-- of a side with m samples: m and the sum of the k samples next to the edge, with one more sample
pub near_fits : (b m k : ℕ) (x : List ℕ) → m ≤ 8 → k < m → AtMost b x → m + total x k + tap x k ≤ 16 * b + 8
near_fits b m k x few h a =
    let more : suc k ≤ 8 = omega arith in omega (arith, total_most b x (suc k) a, mul-le-mul_right b more)

-- the sum of the sample m - 2 - k, as the code forms it
abbrev pub sum_of : (m k : ℕ) (x y : List ℕ) → ℕ
sum_of m k x y =
    tap x (m - 1) * (m - 1 - 1 - k + 1) + (m + total x (m - 1)) + tap x (m - 1 - 1 - k) + (total y k + tap y k)

pub record Whole (b m k : ℕ) (x y : List ℕ) : Type 0 where
  pub fits : sum_of m k x y ≤ 16 * b + 8
  pub over : sum_of m k x y < 2 * m * (b + 1)

pub whole : (b m k : ℕ) (x y : List ℕ) → m ≤ 8 → k < m - 1 → AtMost b x → AtMost b y → Whole b m k x y
whole b m k x y few h ax ay =
    let n = m - 1 in
    let i = m - 1 - 1 - k in
    let outer : tap x n * (i + 1) ≤ b * (i + 1) = mul-le-mul_right (i + 1) (ax.most n) in
    let all : (i + 1 + n + 1 + suc k) * b ≡ 2 * m * b = ap (λ (z : ℕ). z * b) (omega arith) in
    let most : sum_of m k x y ≤ 2 * m * b + m = omega (arith, outer, all, total_most b x n ax, ax.most i, total_most b y (suc k) ay) in
    let more : 2 * m ≤ 16 = omega arith in
    record { fits = omega (arith, most, mul-le-mul_right b more); over = omega (arith, most) }

pub whole_side : (m k : ℕ) (x y : List ℕ) → k < m - 1 → sum_of m k x y / (2 * m) ≡ side (m - 1) x y (m - 1 - 1 - k)
whole_side m k x y h =
    let n = m - 1 in
    let last : suc (n - 1) ≡ n = omega arith in
    let near : sum x (n - 1) ≡ total x n = total_sum x (n - 1) ∙ ap (total x) last in
    let rest : n - 1 - (n - 1 - k) ≡ k = omega arith in
    let far : sum y (n - 1 - (n - 1 - k)) ≡ total y k + tap y k = ap (sum y) rest ∙ total_sum y k in
    let more : n + 1 ≡ m = omega arith in
    rw (near, far, more) (ap (λ (z : ℕ). z / (2 * m)) (omega arith))

-- a sample more is stored
pub side_more : (m k v : ℕ) (x y r : List ℕ) → k < m - 1 → length r ≡ m → v ≡ side (m - 1) x y (m - 1 - 1 - k) → ((i : ℕ) → i < m - 1 → m - 1 ≤ i + k → tap r i ≡ side (m - 1) x y i) → (i : ℕ) → i < m - 1 → m - 1 ≤ i + (k + 1) → tap (set r (m - 1 - 1 - k) v) i ≡ side (m - 1) x y i
side_more m k v x y r h long e done i low high =
    ⊎_elim
    (λ (p : m - 1 - 1 - k < i). get_or-set_other r (m - 1 - 1 - k) i v 0 (λ e. omega arith) ∙ done i low (omega arith))
    (λ (p : i ≤ m - 1 - 1 - k).
    let is : i ≡ m - 1 - 1 - k = omega arith in
    rw is (get_or-set_same r (m - 1 - 1 - k) v 0 (omega arith) ∙ e))
    (split (m - 1 - 1 - k) i)
