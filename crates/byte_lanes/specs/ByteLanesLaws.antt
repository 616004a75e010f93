-- Laws of lanes of bytes: the lanes of each arm in turn are all lanes by their keys.
-- Assumes nothing.
use Rattle.std.specs.Prelude.{◌≡◌, refl, Bool, true, false, ◌||◌, List, map, ◌⊎◌, ℕ, zero, suc, ◌≤◌, ◌<◌, T, eqb, leb, length, get_or}
use Rattle.std.proofs.Common.{sym, ap, ◌∙◌, subst, arith}
use Rattle.std.specs.List.{fold}
use Rattle.std.proofs.lemmas.List.{get_or-map}
use Rattle.base.specs.First.{found, found_none, found-false}
use Rattle.base.specs.FirstLaws.{found_same}
use Rattle.base.specs.Tests.{neither}
use Rattle.byte_filters.specs.ByteArm.{armed, number_of}
use Rattle.byte_filters.specs.ByteArmLaws.{arm_small, arm_line, arm_inner, arm_large}
use Rattle.byte_filters.specs.declared.Arm.{Arm}
use Rattle.byte_filters.specs.declared.Arm.TheVariants.{None}
use Rattle.lanes.specs.KeyLine.{key_line}
use Rattle.lanes.specs.Lanes.{lane_of, EachLane}
use Rattle.wide_filter.specs.Taps.{tap}
use Rattle.byte_lanes.specs.ByteLanes.{Keys, ArmsTo, has_arm, arm_lane, narrow_lane, wide_lane, Stage, beyond, Filtered}
use Rattle.byte_lanes.specs.FoundLaws.{fold_found}
use Rattle.byte_lanes.specs.declared.Changed.{Changed}
use Rattle.byte_lanes.specs.declared.Changed.TheVariants.{Nothing}

-- ---- the lanes of one arm

pub stage_on : {arm : ℕ} {filter : ℕ → List ℕ → List ℕ} {arms t u v : List ℕ} {on : Bool} → on ≡ true → (EachLane 16 (arm_lane arm filter arms) t v) × (length v ≡ 256) → u ≡ v → Stage arm filter arms t u on
stage_on e (lanes, long) is = rw is (record { lanes = lanes; long = long; none = λ off. absurd (subst T (sym e ∙ off) tt) })

pub stage_off : (arm : ℕ) {filter : ℕ → List ℕ → List ℕ} {arms t u : List ℕ} {on : Bool} → on ≡ has_arm arms arm → on ≡ false → length t ≡ 256 → u ≡ t → Stage arm filter arms t u on
stage_off arm {filter} {arms} is off long e =
    rw e (record {
      lanes = record { each = λ l b. rw (found-false (λ (i : ℕ). eqb (get_or arms i 0) arm) 16 (sym is ∙ off) l b) };
      long = long;
      none = λ d. refl;
    })

-- ---- all lanes

-- a lane has one arm, so that two of three stages leave it
one_arm : (keys arms : List ℕ) (l arm : ℕ) (line : List ℕ) → get_or arms l 0 ≡ arm → arm ≤ 3 → arm_lane 3 (wide_lane 4) arms l (arm_lane 2 (wide_lane 3) arms l (arm_lane 1 (narrow_lane keys) arms l line)) ≡ armed (get_or keys l 0) arm line
unfolding armed
one_arm keys arms l zero line e h = rw e
one_arm keys arms l (suc zero) line e h = rw e
one_arm keys arms l (suc (suc zero)) line e h = rw e
one_arm keys arms l (suc (suc (suc zero))) line e h = rw e
one_arm keys arms l (suc (suc (suc (suc n)))) line e h = absurd (omega arith)

module _ {sharpness : ℕ} {keys arms t u v w : List ℕ} {four six outer : Bool} (is : outer ≡ has_arm arms 3) (small : Keys keys) (own : ArmsTo 16 sharpness keys t arms) (first : Stage 1 (narrow_lane keys) arms t u four) (second : Stage 2 (wide_lane 3) arms u v six) (third : Stage 3 (wide_lane 4) arms v w outer) where
  few : (l : ℕ) → l < 16 → get_or arms l 0 ≤ 3
  few l b = rw (own.each l b) (arm_small sharpness (get_or keys l 0) (lane_of t l))

  by_arm : (l : ℕ) → l < 16 → lane_of w l ≡ armed (get_or keys l 0) (get_or arms l 0) (lane_of t l)
  by_arm l b =
      third.lanes.each l b
      ∙ ap (arm_lane 3 (wide_lane 4) arms l) (second.lanes.each l b ∙ ap (arm_lane 2 (wide_lane 3) arms l) (first.lanes.each l b))
      ∙ one_arm keys arms l (get_or arms l 0) (lane_of t l) refl (few l b)

  by_key : (l : ℕ) → l < 16 → lane_of w l ≡ key_line sharpness 8 (get_or keys l 0) (lane_of t l)
  by_key l b = by_arm l b ∙ (rw (own.each l b) (arm_line sharpness (get_or keys l 0) (lane_of t l) (small.small l b)))

  kept : (r : Changed) → beyond r ≡ outer → (r ≡ Nothing → four || six ≡ false) → r ≡ Nothing → w ≡ t
  kept r e f n =
      let (narrow, wide) = neither four (f n) in
      third.none (sym e ∙ ap beyond n) ∙ second.none wide ∙ first.none narrow

  inner : outer ≡ false → (l k : ℕ) → l < 16 → (k < 4) ⊎ (12 ≤ k) → tap (lane_of w l) k ≡ tap (lane_of t l) k
  inner e l k b out =
      let off = found-false (λ (i : ℕ). eqb (get_or arms i 0) 3) 16 (sym is ∙ e) l b in
      ap (λ (x : List ℕ). tap x k) (by_arm l b) ∙ arm_inner (get_or keys l 0) (get_or arms l 0) (lane_of t l) k (few l b) off out

  large : found (λ (l : ℕ). leb 128 (get_or keys l 0)) 16 ≡ false → outer ≡ false
  large e =
      is
      ∙ found_none (λ (l : ℕ). eqb (get_or arms l 0) 3) 16
      (λ l b. rw (own.each l b) (arm_large sharpness (get_or keys l 0) (lane_of t l) (found-false (λ (i : ℕ). leb 128 (get_or keys i 0)) 16 e l b)))

  pub lanes_filtered : (r : Changed) → beyond r ≡ outer → (r ≡ Nothing → four || six ≡ false) → Filtered sharpness keys t w r
  lanes_filtered r e f = record {
    lanes = record { each = by_key };
    long = third.long;
    none = kept r e f;
    inner = λ o. inner (sym e ∙ o);
    large = λ h. e ∙ large h;
  }

-- ---- a search for an arm

pub arms_fold : (arms : List Arm) (arm : ℕ) → length arms ≡ 16 → fold (λ on a. on || eqb (number_of a) arm) false arms ≡ has_arm (map number_of arms) arm
arms_fold arms arm long =
    fold_found (λ a. eqb (number_of a) arm) None arms
    ∙ (rw long (found_same (λ k. eqb (number_of (get_or arms k None)) arm) (λ k. eqb (get_or (map number_of arms) k 0) arm) 16 (λ k h. rw (get_or-map number_of arms k None 0 (omega (arith, long))))))
