-- Laws of the notation: how large clipped, shifted and added numbers get. `mag z` is n both for n and for -(n + 1), so
-- `mag z < 2 ^ k` says that z fits k + 1 bits with a sign.
-- Assumes nothing.
use Rattle.std.specs.Prelude.{◌≡◌, refl, Bool, true, false, cond, ◌⊎◌, ℕ, zero, suc, ◌+◌, ◌*◌, ◌≤◌, ◌<◌, T, ltb, ℤ, pos, negsuc, neg_ℤ, nat_abs, ◌+ℤ◌, ◌-ℤ◌, ◌*ℤ◌}
use Rattle.std.proofs.Common.{subst, inl, inr, ⊎_elim, mul-one, arith, lt-ltb, le-ltb, ltb-true, ltb-false}
use Rattle.std.proofs.Math.IntN.{sub_ℕ}
use Rattle.std.specs.Int.Signed.{mag, lt_z}
use Rattle.base.specs.Notation.{clip3, shl_z}

-- which of two numbers is less
pub split : (a b : ℕ) → (a < b) ⊎ (b ≤ a)
split a b = cases (ltb a b) refl
  where
    cases : (t : Bool) → ltb a b ≡ t → (a < b) ⊎ (b ≤ a)
    cases true e = inl (ltb-true a b e)
    cases false e = inr (ltb-false a b e)

-- what is clipped is at most b where both limits are
pub clip_below : (lo hi b : ℕ) (v : ℤ) → lo ≤ b → hi ≤ b → nat_abs (clip3 (pos lo) (pos hi) v) ≤ b
unfolding clip3
clip_below lo hi b (negsuc n) p q = p
clip_below lo hi b (pos n) p q =
    ⊎_elim
    (λ h. rw (lt-ltb n lo h) p)
    (λ h. ⊎_elim (λ k. rw (le-ltb n lo h, lt-ltb hi n k) q) (λ k. rw (le-ltb n lo h, le-ltb hi n k) (omega arith)) (split hi n))
    (split n lo)

-- a shift by 0
pub shl_none : (v : ℤ) → shl_z v 0 ≡ v
shl_none (pos a) = rw (mul-one a)
shl_none (negsuc a) = rw (mul-one (suc a))

-- a test that came out both ways
not_less : true ≡ false → ⊥
not_less e = absurd (subst T e tt)

mag_sub : (a b n : ℕ) → a < n → b ≤ n → mag (sub_ℕ a b) < n
mag_sub a b n p q =
    ⊎_elim (λ h. rw (lt-ltb a b h) (omega arith)) (λ h. rw (le-ltb a b h) (omega arith)) (split a b)

-- a sum is no larger than its parts together
pub mag_add : (a b : ℤ) {m n : ℕ} → mag a < m → mag b < n → mag (a +ℤ b) < m + n
mag_add (pos a) (pos b) p q = omega arith
mag_add (pos a) (negsuc b) {m} {n} p q = mag_sub a (suc b) (m + n) (omega arith) (omega arith)
mag_add (negsuc a) (pos b) {m} {n} p q = mag_sub b (suc a) (m + n) (omega arith) (omega arith)
mag_add (negsuc a) (negsuc b) p q = omega arith

-- and so is a difference
pub mag_minus : (a b : ℤ) {m n : ℕ} → mag a < m → mag b < n → mag (a -ℤ b) < m + n
mag_minus a (pos zero) p q = omega (arith, mag_add a (pos 0) p q)
mag_minus a (pos (suc b)) {m} {n} p q = mag_add a (negsuc b) p (omega arith)
mag_minus (pos a) (negsuc b) p q = omega arith
mag_minus (negsuc a) (negsuc b) {m} {n} p q = mag_sub (suc b) (suc a) (m + n) (omega arith) (omega arith)

mag_neg : (a n : ℕ) → a ≤ n → 0 < n → mag (neg_ℤ (pos a)) < n
mag_neg zero n p q = q
mag_neg (suc a) n p q = p

-- a double is at most twice as large
pub mag_double : (a : ℤ) {m : ℕ} → mag a < m → mag (a *ℤ pos 2) < 2 * m
mag_double (pos a) p = omega arith
mag_double (negsuc a) {m} p = mag_neg (suc a * 2) (2 * m) (omega arith) (omega arith)

-- and three times a number three times
pub mag_triple : (a : ℤ) {m : ℕ} → mag a < m → mag (pos 3 *ℤ a) < 3 * m
mag_triple (pos a) p = omega arith
mag_triple (negsuc a) {m} p = mag_neg (3 * suc a) (3 * m) (omega arith) (omega arith)

-- what is clipped is no larger than the limits
pub mag_clip : (lo hi v : ℤ) {m : ℕ} → mag lo < m → mag hi < m → mag (clip3 lo hi v) < m
unfolding clip3
mag_clip lo hi v {m} p q = cases (lt_z v lo) (lt_z hi v) refl refl
  where
    between : (a b x : ℤ) → mag a < m → mag b < m → lt_z x a ≡ false → lt_z b x ≡ false → mag x < m
    between a (pos b) (pos x) p q e f = omega (arith, ltb-false b x f)
    between a (negsuc b) (pos x) p q e f = omega (arith, not_less f)
    between (pos a) b (negsuc x) p q e f = omega (arith, not_less e)
    between (negsuc a) b (negsuc x) p q e f = omega (arith, ltb-false a x e)

    cases : (s t : Bool) → lt_z v lo ≡ s → lt_z hi v ≡ t → mag (cond s lo (cond t hi v)) < m
    cases true t e f = p
    cases false true e f = q
    cases false false e f = between lo hi v p q e f
