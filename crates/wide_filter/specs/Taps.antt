-- A line: the 16 samples across an edge, p7 to p0 and then q0 to q7, at places 0 to 15 of a list.
-- Assumes nothing.
use Rattle.std.specs.Prelude.{◌≡◌, List, ◌++◌, ℕ, ◌+◌, ◌-◌, ◌≤◌, ◌<◌, ℤ, pos, negsuc, length, get_or}
use Rattle.std.proofs.Common.{arith}
use Rattle.std.proofs.Math.ListN.{get_or-append}

abbrev pub tap : (t : List ℕ) (k : ℕ) → ℕ
tap t k = get_or t k 0

-- p_k and q_k
abbrev pub p : (t : List ℕ) (k : ℕ) → ℕ
p t k = tap t (7 - k)

abbrev pub q : (t : List ℕ) (k : ℕ) → ℕ
q t k = tap t (8 + k)

-- F[ i ]: q_i for i from 0 on, p_( -i - 1 ) below
abbrev pub f_at : (t : List ℕ) (i : ℤ) → ℕ
f_at t (pos k) = q t k
f_at t (negsuc k) = p t k

-- each of the 16 samples is below b
pub record Within (b : ℕ) (t : List ℕ) : Type 0 where
  pub below : (k : ℕ) → k < 16 → tap t k < b

-- two lines agree on p_k and q_k for k below r
pub record Agree (r : ℕ) (t u : List ℕ) : Type 0 where
  pub same : (k : ℕ) → 8 ≤ k + r → k < 8 + r → tap t k ≡ tap u k

pub agree_less : (r s : ℕ) (t u : List ℕ) → s ≤ r → Agree r t u → Agree s t u
agree_less r s t u h a = record { same = λ k p q. a.same k (omega arith) (omega arith) }

pub agree_p : (r : ℕ) (t u : List ℕ) (k : ℕ) → Agree r t u → k < r → k < 8 → p t k ≡ p u k
agree_p r t u k a h g = a.same (7 - k) (omega arith) (omega arith)

pub agree_q : (r : ℕ) (t u : List ℕ) (k : ℕ) → Agree r t u → k < r → q t k ≡ q u k
agree_q r t u k a h = a.same (8 + k) (omega arith) (omega arith)

-- a list that goes on behind a line has the line's samples
pub agree_front : (t r : List ℕ) → length t ≡ 16 → Agree 8 (t ++ r) t
agree_front t r e = record { same = λ k p q. get_or-append t r 0 k (omega arith) }
