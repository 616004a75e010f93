-- Laws of the narrow filter's numbers.
-- Assumes nothing.
use Rattle.std.specs.Prelude.{◌≡◌, List, ◌++◌, ◌⊎◌, Bool, true, false, cond, ℕ, suc, ◌+◌, ◌-◌, ◌*◌, ◌^◌, ◌≤◌, ◌<◌, T, ℤ, pos, negsuc, neg_ℤ, nat_abs, ◌+ℤ◌, ◌-ℤ◌, length, set, zero}
use Rattle.std.proofs.Common.{◌∙◌, ⊎_elim, length-set, get_or-set_other, le-ltb, arith}
use Rattle.std.proofs.Math.IntN.{+ℤ_idl}
use Rattle.std.proofs.lemmas.List.{set-append_left}
use Rattle.std.specs.Int.Signed.{mag, non_neg}
use Rattle.base.specs.Depth.{supported, depth_scaled}
use Rattle.base.specs.Filled.{set_below, set_agree}
use Rattle.base.specs.Notation.{clip3}
use Rattle.base.specs.NotationLaws.{mag_clip}
use Rattle.line.specs.NarrowFilter.{c, offset, sample, narrow_filter}
use Rattle.wide_filter.specs.Taps.{tap, Within, Agree, agree_p, agree_q, agree_front}

neg_small : (n m : ℕ) → 0 < n → n ≤ m → mag (neg_ℤ (pos n)) < m
neg_small zero m p q = elim p [ ]
neg_small (suc n) m p q = q

one_less : (n : ℕ) → 0 < n → pos n -ℤ pos 1 ≡ pos (n - 1)
one_less n p = rw (le-ltb n 1 p)

-- a number within half the range, moved up by it
pub raised_sign : (z : ℤ) (h : ℕ) → mag z < h → T (non_neg (z +ℤ pos h))
raised_sign (pos n) h p = tt
raised_sign (negsuc n) h p = rw (le-ltb h (suc n) p) tt

pub raised_small : (z : ℤ) (h : ℕ) → mag z < h → nat_abs (z +ℤ pos h) < 2 * h
raised_small (pos n) h p = omega arith
raised_small (negsuc n) h p = rw (le-ltb h (suc n) p) (omega arith)

module _ (B : ℕ) (known : supported B ≡ true) where
  -- the limits as the code has them
  pub c_is : (v : ℤ) → clip3 (pos 0 -ℤ offset B) (offset B -ℤ pos 1) v ≡ c B v
  unfolding c
  c_is v =
      let s = depth_scaled B known in
      rw (+ℤ_idl (neg_ℤ (offset B)), one_less (128 * 2 ^ (B - 8)) (omega arith), s.half)

  pub c_small : (v : ℤ) → mag (c B v) < 128 * 2 ^ (B - 8)
  unfolding c
  c_small v =
      let s = depth_scaled B known in
      rw s.half
      (mag_clip (neg_ℤ (pos (128 * 2 ^ (B - 8)))) (pos (128 * 2 ^ (B - 8) - 1)) v (neg_small (128 * 2 ^ (B - 8)) (128 * 2 ^ (B - 8)) (omega arith) (omega arith)) (omega arith))

  -- a sample that was moved is in range
  pub sample-below : (v : ℤ) → sample B v < 2 ^ B
  unfolding sample
  sample-below v =
      let s = depth_scaled B known in
      let small = raised_small (c B v) (128 * 2 ^ (B - 8)) (c_small v) in
      omega arith

-- ---- the line

-- whatever the four samples are
stored : Bool → List ℕ → ℕ → ℕ → ℕ → ℕ → List ℕ
stored hev t q0 p0 q1 p1 = cond hev (set (set t 8 q0) 7 p0) (set (set (set (set t 8 q0) 7 p0) 9 q1) 6 p1)

stored-length : (hev : Bool) (t : List ℕ) (q0 p0 q1 p1 : ℕ) → length (stored hev t q0 p0 q1 p1) ≡ length t
unfolding stored
stored-length true t q0 p0 q1 p1 = simp length-set
stored-length false t q0 p0 q1 p1 = simp length-set

stored-below : (b : ℕ) (hev : Bool) (t : List ℕ) (q0 p0 q1 p1 k : ℕ) → q0 < b → p0 < b → q1 < b → p1 < b → tap t k < b → tap (stored hev t q0 p0 q1 p1) k < b
unfolding stored
stored-below b hev t q0 p0 q1 p1 k hq0 hp0 hq1 hp1 h = cases hev
  where
    inner : tap (set (set t 8 q0) 7 p0) k < b
    inner = set_below b (set t 8 q0) 7 p0 k hp0 (set_below b t 8 q0 k hq0 h)

    cases : (hev : Bool) → tap (cond hev (set (set t 8 q0) 7 p0) (set (set (set (set t 8 q0) 7 p0) 9 q1) 6 p1)) k < b
    cases true = inner
    cases false = set_below b (set (set (set t 8 q0) 7 p0) 9 q1) 6 p1 k hp1 (set_below b (set (set t 8 q0) 7 p0) 9 q1 k hq1 inner)

-- a place outside n taps of each side is none of theirs
outside : (n k i : ℕ) → (k + n < 8) ⊎ (8 + n ≤ k) → 8 ≤ i + n → i < 8 + n → k ≡ i → ⊥
outside n k i h p q e = ⊎_elim (λ (g : k + n < 8). omega arith) (λ (g : 8 + n ≤ k). omega arith) h

stored_kept : (hev : Bool) (t : List ℕ) (q0 p0 q1 p1 k : ℕ) → (k + cond hev 1 2 < 8) ⊎ (8 + cond hev 1 2 ≤ k) → tap (stored hev t q0 p0 q1 p1) k ≡ tap t k
unfolding stored
stored_kept true t q0 p0 q1 p1 k h =
    get_or-set_other (set t 8 q0) 7 k p0 0 (outside 1 k 7 h (omega arith) (omega arith))
    ∙ get_or-set_other t 8 k q0 0 (outside 1 k 8 h (omega arith) (omega arith))
stored_kept false t q0 p0 q1 p1 k h =
    get_or-set_other (set (set (set t 8 q0) 7 p0) 9 q1) 6 k p1 0 (outside 2 k 6 h (omega arith) (omega arith))
    ∙ get_or-set_other (set (set t 8 q0) 7 p0) 9 k q1 0 (outside 2 k 9 h (omega arith) (omega arith))
    ∙ get_or-set_other (set t 8 q0) 7 k p0 0 (outside 2 k 7 h (omega arith) (omega arith))
    ∙ get_or-set_other t 8 k q0 0 (outside 2 k 8 h (omega arith) (omega arith))

stored_agree : (hev : Bool) (t u : List ℕ) (q0 p0 q1 p1 k : ℕ) → length t ≡ length u → tap t k ≡ tap u k → tap (stored hev t q0 p0 q1 p1) k ≡ tap (stored hev u q0 p0 q1 p1) k
unfolding stored
stored_agree hev t u q0 p0 q1 p1 k e h = cases hev
  where
    inner : tap (set (set t 8 q0) 7 p0) k ≡ tap (set (set u 8 q0) 7 p0) k
    inner = set_agree (set t 8 q0) (set u 8 q0) 7 p0 k (simp length-set e) (set_agree t u 8 q0 k e h)

    cases : (hev : Bool) → tap (cond hev (set (set t 8 q0) 7 p0) (set (set (set (set t 8 q0) 7 p0) 9 q1) 6 p1)) k ≡ tap (cond hev (set (set u 8 q0) 7 p0) (set (set (set (set u 8 q0) 7 p0) 9 q1) 6 p1)) k
    cases true = inner
    cases false =
        set_agree (set (set (set t 8 q0) 7 p0) 9 q1) (set (set (set u 8 q0) 7 p0) 9 q1) 6 p1 k (simp length-set e)
        (set_agree (set (set t 8 q0) 7 p0) (set (set u 8 q0) 7 p0) 9 q1 k (simp length-set e) inner)

stored-front : (hev : Bool) (t r : List ℕ) (q0 p0 q1 p1 : ℕ) → length t ≡ 16 → stored hev (t ++ r) q0 p0 q1 p1 ≡ stored hev t q0 p0 q1 p1 ++ r
unfolding stored
stored-front hev t r q0 p0 q1 p1 e = cases hev
  where
    put : (l : List ℕ) (i v : ℕ) → length l ≡ 16 → i < 16 → set (l ++ r) i v ≡ set l i v ++ r
    put l i v f h = set-append_left l r i v (omega arith)

    inner : set (set (t ++ r) 8 q0) 7 p0 ≡ set (set t 8 q0) 7 p0 ++ r
    inner = rw (put t 8 q0 e (omega arith), put (set t 8 q0) 7 p0 (simp length-set e) (omega arith))

    cases : (hev : Bool) → cond hev (set (set (t ++ r) 8 q0) 7 p0) (set (set (set (set (t ++ r) 8 q0) 7 p0) 9 q1) 6 p1) ≡ cond hev (set (set t 8 q0) 7 p0) (set (set (set (set t 8 q0) 7 p0) 9 q1) 6 p1) ++ r
    cases true = inner
    cases false =
        rw (inner, put (set (set t 8 q0) 7 p0) 9 q1 (simp length-set e) (omega arith), put (set (set (set t 8 q0) 7 p0) 9 q1) 6 p1 (simp length-set e) (omega arith))

pub narrow_length : (B : ℕ) (hev : Bool) (t : List ℕ) → length (narrow_filter B hev t) ≡ length t
unfolding narrow_filter stored
narrow_length B hev t = stored-length hev t _ _ _ _

pub narrow_below : (B : ℕ) (hev : Bool) (t : List ℕ) → supported B ≡ true → Within (2 ^ B) t → Within (2 ^ B) (narrow_filter B hev t)
unfolding narrow_filter stored
narrow_below B hev t known w =
    record { below = λ k h. stored-below (2 ^ B) hev t _ _ _ _ k (sample-below B known _) (sample-below B known _) (sample-below B known _) (sample-below B known _) (w.below k h) }

-- p0 and q0 change, and where the variance is not high p1 and q1
pub narrow_kept : (B : ℕ) (hev : Bool) (t : List ℕ) (k : ℕ) → (k + cond hev 1 2 < 8) ⊎ (8 + cond hev 1 2 ≤ k) → tap (narrow_filter B hev t) k ≡ tap t k
unfolding narrow_filter stored
narrow_kept B hev t k h = stored_kept hev t _ _ _ _ k h

pub narrow_agree : (B : ℕ) (hev : Bool) (r : ℕ) (t u : List ℕ) → 2 ≤ r → length t ≡ length u → Agree r t u → Agree r (narrow_filter B hev t) (narrow_filter B hev u)
unfolding narrow_filter stored
narrow_agree B hev r t u h e a =
    record { same = λ k p q. rw (agree_p r t u 0 a (omega arith) (omega arith), agree_p r t u 1 a (omega arith) (omega arith), agree_q r t u 0 a (omega arith), agree_q r t u 1 a (omega arith)) (stored_agree hev t u _ _ _ _ k e (a.same k p q)) }

-- what stands behind the line is left
pub narrow_front : (B : ℕ) (hev : Bool) (t r : List ℕ) → length t ≡ 16 → narrow_filter B hev (t ++ r) ≡ narrow_filter B hev t ++ r
unfolding narrow_filter stored
narrow_front B hev t r e =
    let a = agree_front t r e in
    rw (agree_p 8 (t ++ r) t 0 a (omega arith) (omega arith), agree_p 8 (t ++ r) t 1 a (omega arith) (omega arith), agree_q 8 (t ++ r) t 0 a (omega arith), agree_q 8 (t ++ r) t 1 a (omega arith))
    (stored-front hev t r _ _ _ _ e)
