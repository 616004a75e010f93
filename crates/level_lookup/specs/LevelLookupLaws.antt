-- Laws of an entry looked up in a level table.
-- Assumes nothing.
use Rattle.std.specs.Prelude.{◌≡◌, false, not, ◌&&◌, List, ℕ, ◌≤◌, ◌<◌, T, ltb, ℤ, pos, negsuc, get_or, Some, None, unwrap_or}
use Rattle.std.proofs.Math.Bool.{and-false}
use Rattle.std.proofs.Common.{⊎_elim, arith, lt-ltb, le-ltb}
use Rattle.std.specs.Int.Signed.{lt_z, non_neg}
use Rattle.base.specs.NotationLaws.{split}
use Rattle.level_lookup.specs.LevelLookup.{level_at, lookup_of}

-- a segment, a reference and a mode type that exist have an entry
pub lookup_entry : (levels : List ℕ) (segment ref mode : ℕ) → segment < 8 → ref < 4 → mode < 2 → lookup_of levels segment (pos ref) mode ≡ Some (get_or levels (level_at segment ref mode) 0)
unfolding lookup_of
lookup_entry levels segment ref mode p q r =
    rw (lt-ltb segment 8 p, lt-ltb mode 2 r, le-ltb ref 0 (omega arith), lt-ltb ref 4 q)

-- a segment above 7, a reference above 3, a negative one or a mode type above 1 has none
pub lookup_segment : (levels : List ℕ) (segment : ℕ) (ref : ℤ) (mode : ℕ) → 8 ≤ segment → lookup_of levels segment ref mode ≡ None
unfolding lookup_of
lookup_segment levels segment ref mode p = rw (le-ltb segment 8 p)

pub lookup_large : (levels : List ℕ) (segment ref mode : ℕ) → 4 ≤ ref → lookup_of levels segment (pos ref) mode ≡ None
unfolding lookup_of
lookup_large levels segment ref mode p = rw (le-ltb ref 4 p, and-false (ltb segment 8 && ltb mode 2 && not (ltb ref 0)))

pub lookup_negative : (levels : List ℕ) (segment n mode : ℕ) → lookup_of levels segment (negsuc n) mode ≡ None
unfolding lookup_of
lookup_negative levels segment n mode = rw (and-false (ltb segment 8 && ltb mode 2))

pub lookup_mode : (levels : List ℕ) (segment ref mode : ℕ) → 2 ≤ mode → lookup_of levels segment (pos ref) mode ≡ None
unfolding lookup_of
lookup_mode levels segment ref mode p = rw (le-ltb mode 2 p, and-false (ltb segment 8))

-- what is found is one of the 64
pub lookup_small : (levels : List ℕ) (segment : ℕ) (ref : ℤ) (mode b : ℕ) → ((k : ℕ) → k < 64 → get_or levels k 0 ≤ b) → unwrap_or (lookup_of levels segment ref mode) 0 ≤ b
lookup_small levels segment (negsuc n) mode b h = rw (lookup_negative levels segment n mode) (omega arith)
lookup_small levels segment (pos ref) mode b h =
    ⊎_elim
    (λ (p : segment < 8). ⊎_elim
    (λ (q : ref < 4). ⊎_elim
    (λ (r : mode < 2). rw (lookup_entry levels segment ref mode p q r) (h (level_at segment ref mode) (omega arith)))
    (λ (r : 2 ≤ mode). rw (lookup_mode levels segment ref mode r) (omega arith))
    (split mode 2))
    (λ (q : 4 ≤ ref). rw (lookup_large levels segment ref mode q) (omega arith))
    (split ref 4))
    (λ (p : 8 ≤ segment). rw (lookup_segment levels segment (pos ref) mode p) (omega arith))
    (split segment 8)

-- an integer that is not below 0 has no sign
pub not_negative : (v : ℤ) → lt_z v (pos 0) ≡ false → T (non_neg v)
not_negative (pos n) e = tt
not_negative (negsuc n) e = let z : ◌≡◌ {A = ℕ} 0 1 = cc in absurd (contra z)
  where
    contra : ◌≡◌ {A = ℕ} 0 1 → ⊥
    contra z = omega arith
