-- Laws of tables that are turned by perfect shuffles.
-- Assumes nothing.
use Rattle.std.specs.Prelude.{◌≡◌, List, ℕ, zero, suc, ◌+◌, ◌*◌, ◌/◌, ◌%◌, ◌≤◌, ◌<◌, length, get_or, set}
use Rattle.std.proofs.Common.{ap, ◌∙◌, ⊎_elim, mul-add, mul_assoc, mul-le-mul_left, arith, length-set, get_or-set_same, get_or-set_other}
use Rattle.base.specs.NotationLaws.{split}
use Rattle.byte_rows.specs.Turn.{TurnedTo, Turned}

-- ---- a perfect shuffle turns two rows

pub shuffled_none : (to from m n : ℕ) (t u : List ℕ) → length u ≡ 256 → TurnedTo 0 to from m n t u
shuffled_none to from m n t u long = record { turned = λ l k a b. absurd (omega arith); long = long }

pub shuffled_more : (i to from half : ℕ) (t u : List ℕ) → to + 2 * half ≤ 256 → i < half → TurnedTo i to from 2 half t u
    → TurnedTo (i + 1) to from 2 half t (set (set u (to + 2 * i) (get_or t (from + i) 0)) (to + 2 * i + 1) (get_or t (from + half + i) 0))
shuffled_more i to from half t u room h inv = record {
  turned = λ l k a b. ⊎_elim (λ (x : k < i). before l k a x) (λ (x : i ≤ k). let y : k ≡ i = omega arith in rw y (last l a)) (split k i);
  long = simp length-set inv.long;
}
  where
    before : (l k : ℕ) → l < 2 → k < i → get_or (set (set u (to + 2 * i) (get_or t (from + i) 0)) (to + 2 * i + 1) (get_or t (from + half + i) 0)) (to + 2 * k + l) 0 ≡ get_or t (from + half * l + k) 0
    before l k a b =
        get_or-set_other (set u (to + 2 * i) (get_or t (from + i) 0)) (to + 2 * i + 1) (to + 2 * k + l) (get_or t (from + half + i) 0) 0 (λ e. omega arith)
        ∙ get_or-set_other u (to + 2 * i) (to + 2 * k + l) (get_or t (from + i) 0) 0 (λ e. omega arith)
        ∙ inv.turned l k a b

    last : (l : ℕ) → l < 2 → get_or (set (set u (to + 2 * i) (get_or t (from + i) 0)) (to + 2 * i + 1) (get_or t (from + half + i) 0)) (to + 2 * i + l) 0 ≡ get_or t (from + half * l + i) 0
    last zero a =
        ap (λ (j : ℕ). get_or (set (set u (to + 2 * i) (get_or t (from + i) 0)) (to + 2 * i + 1) (get_or t (from + half + i) 0)) j 0) (omega arith)
        ∙ get_or-set_other (set u (to + 2 * i) (get_or t (from + i) 0)) (to + 2 * i + 1) (to + 2 * i) (get_or t (from + half + i) 0) 0 (λ e. omega arith)
        ∙ get_or-set_same u (to + 2 * i) (get_or t (from + i) 0) 0 (omega (arith, inv.long))
        ∙ ap (λ (j : ℕ). get_or t j 0) (omega arith)
    last (suc zero) a =
        get_or-set_same (set u (to + 2 * i) (get_or t (from + i) 0)) (to + 2 * i + 1) (get_or t (from + half + i) 0) 0 (simp length-set (omega (arith, inv.long)))
        ∙ ap (λ (j : ℕ). get_or t j 0) (omega arith)
    last (suc (suc l)) a = absurd (omega arith)

-- ---- one more shuffle turns twice as many rows

pub turned_again : (to from m n : ℕ) {t u v : List ℕ} → Turned 0 from m (2 * n) t u → Turned to 0 2 (m * n) u v → Turned to from (2 * m) n t v
turned_again to from m n {t} {u} {v} first second = record { turned = entry; long = second.long }
  where
    -- row l is row l / 2 of the first, and its half l % 2
    entry : (l k : ℕ) → l < 2 * m → k < n → get_or v (to + 2 * m * k + l) 0 ≡ get_or t (from + n * l + k) 0
    entry l k a b =
        let h = l / 2 in
        let p = l % 2 in
        let column : m * k + h < m * n = omega (arith, mul-le-mul_left m b, mul-add m k 1) in
        let row : n * p + k < 2 * n = omega (arith, mul-le-mul_left n (low l)) in
        ap (λ (j : ℕ). get_or v j 0) (omega (arith, mul_assoc 2 m k))
        ∙ second.turned p (m * k + h) (omega arith) column
        ∙ ap (λ (j : ℕ). get_or u j 0) (omega (arith, mul_assoc m n p, mul-add m (n * p) k))
        ∙ first.turned h (n * p + k) (omega arith) row
        ∙ ap (λ (j : ℕ). get_or t j 0) (omega (arith, mul-add n (2 * h) p, mul_assoc 2 n h, ap (λ (i : ℕ). n * i) (digits l)))
      where
        low : (l : ℕ) → l % 2 ≤ 1
        low l = omega arith

        digits : (l : ℕ) → l ≡ 2 * (l / 2) + l % 2
        digits l = omega arith

-- four of them turn 16 rows
pub turned_whole : (to n : ℕ) {t u v w x : List ℕ} → Turned 0 0 2 (8 * n) t u → Turned 0 0 2 (8 * n) u v → Turned 0 0 2 (8 * n) v w → Turned to 0 2 (8 * n) w x → Turned to 0 16 n t x
turned_whole to n {t} {u} {v} {w} first second third fourth =
    let p : 8 * n ≡ 2 * (4 * n) = omega arith in
    let q : 4 * n ≡ 2 * (2 * n) = omega arith in
    let r : 8 * n ≡ 4 * (2 * n) = omega arith in
    let two : Turned 0 0 4 (4 * n) t v = turned_again 0 0 2 (4 * n) (rw p at first) (rw p at second) in
    let three : Turned 0 0 8 (2 * n) t w = turned_again 0 0 4 (2 * n) (rw q at two) (rw r at third) in
    turned_again to 0 8 n three fourth
