-- Laws of the arm of a line: its filter is the line filter that the key names.
-- Assumes nothing.
use Rattle.std.specs.Prelude.{◌≡◌, Bool, cond, ◌⊎◌, List, ℕ, zero, suc, ◌+◌, ◌/◌, ◌%◌, ◌≤◌, ◌<◌, T, eqb, leb}
use Rattle.std.proofs.Math.Path.{refl}
use Rattle.std.proofs.Common.{subst, inl, inr, ⊎_elim, arith}
use Rattle.std.proofs.Math.Bool.{true, false}
use Rattle.std.proofs.lemmas.Bool.Decides.{nat_tests}
use denote.Enum.Bare.{sameb}
use Rattle.lanes.specs.KeyLine.{key_line}
use Rattle.line.specs.Masks.{hev_mask}
use Rattle.line.specs.NarrowFilterLaws.{narrow_kept}
use Rattle.line.specs.SampleFiltering.{sample_filtering}
use Rattle.strength.specs.Strength.{strength_of}
use Rattle.wide_filter.specs.Taps.{tap}
use Rattle.wide_filter.specs.WideFilterLaws.{wide_kept}
use Rattle.byte_filters.specs.ByteArm.{number_of, arm_of, armed}
use Rattle.byte_filters.specs.contracts.Arm.{the_type}
use Rattle.byte_filters.specs.declared.Arm.{Arm}
use Rattle.byte_filters.specs.declared.Arm.TheVariants.{None, Narrow, Six, Fourteen}

-- arms are equal where their numbers are
pub same_arm : (a b : Arm) → sameb the_type a b ≡ eqb (number_of a) (number_of b)
same_arm None None = refl
same_arm None Narrow = refl
same_arm None Six = refl
same_arm None Fourteen = refl
same_arm Narrow None = refl
same_arm Narrow Narrow = refl
same_arm Narrow Six = refl
same_arm Narrow Fourteen = refl
same_arm Six None = refl
same_arm Six Narrow = refl
same_arm Six Six = refl
same_arm Six Fourteen = refl
same_arm Fourteen None = refl
same_arm Fourteen Narrow = refl
same_arm Fourteen Six = refl
same_arm Fourteen Fourteen = refl

-- ---- how great an arm is

pub arm_small : (sharpness key : ℕ) (t : List ℕ) → arm_of sharpness key t ≤ 3
unfolding arm_of
arm_small sharpness key t = grind arith

-- the wide filter of fourteen samples is for keys of size 2 alone
pub arm_large : (sharpness key : ℕ) (t : List ℕ) → leb 128 key ≡ false → eqb (arm_of sharpness key t) 3 ≡ false
unfolding arm_of
arm_large sharpness key t e = grind arith

-- ---- the taps that an arm keeps

outside : {n k : ℕ} → n ≤ 3 → (k < 4) ⊎ (12 ≤ k) → (k + n < 8) ⊎ (8 + n ≤ k)
outside h = ⊎_elim (λ p. inl (omega arith)) (λ p. inr (omega arith))

-- taps outside p3 to q3 change by that filter alone
pub arm_inner : (key arm : ℕ) (t : List ℕ) (k : ℕ) → arm ≤ 3 → eqb arm 3 ≡ false → (k < 4) ⊎ (12 ≤ k) → tap (armed key arm t) k ≡ tap t k
unfolding armed
arm_inner key zero t k h e out = refl
arm_inner key (suc zero) t k h e out = let hev = hev_mask (key % 64 / 16) t in narrow_kept 8 hev t k (outside (few hev) out)
  where
    few : (hev : Bool) → cond hev 1 2 ≤ 3
    few true = omega arith
    few false = omega arith
arm_inner key (suc (suc zero)) t k h e out = wide_kept 3 t k (outside (omega arith) out)
arm_inner key (suc (suc (suc zero))) t k h e out = absurd (subst T e tt)
arm_inner key (suc (suc (suc (suc n)))) t k h e out = absurd (omega arith)

-- ---- the filter of an arm

pub arm_line : (sharpness key : ℕ) (t : List ℕ) → key < 192 → armed key (arm_of sharpness key t) t ≡ key_line sharpness 8 key t
unfolding armed arm_of key_line sample_filtering strength_of
arm_line sharpness key t h = grind (arith, nat_tests)
