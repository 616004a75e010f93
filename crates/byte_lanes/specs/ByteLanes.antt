-- Lanes of bytes: 16 lines side by side in a list of 256, each with a key of its own.
-- Assumes nothing.
use Rattle.std.specs.Prelude.{◌≡◌, Bool, true, false, cond, List, ◌⊎◌, ℕ, ◌%◌, ◌/◌, ◌≤◌, ◌<◌, eqb, leb, length, get_or}
use Rattle.base.specs.First.{found}
use Rattle.byte_filters.specs.ByteArm.{arm_of}
use Rattle.lanes.specs.KeyLine.{key_line}
use Rattle.lanes.specs.Lanes.{lane_of, EachLane}
use Rattle.line.specs.Masks.{hev_mask}
use Rattle.line.specs.NarrowFilter.{narrow_filter}
use Rattle.wide_filter.specs.Taps.{tap}
use Rattle.wide_filter.specs.WideFilter.{wide_filter}
use Rattle.byte_lanes.specs.declared.Changed.{Changed}
use Rattle.byte_lanes.specs.declared.Changed.TheVariants.{Nothing, Inner, Outer}

-- each key is that of a size and a level
pub record Keys (keys : List ℕ) : Type 0 where
  pub small : (l : ℕ) → l < 16 → get_or keys l 0 < 192

-- the arms of the first m lanes
pub record ArmsTo (m sharpness : ℕ) (keys t arms : List ℕ) : Type 0 where
  pub each : (l : ℕ) → l < m → get_or arms l 0 ≡ arm_of sharpness (get_or keys l 0) (lane_of t l)

-- whether a lane has the arm
abbrev pub has_arm : (arms : List ℕ) (arm : ℕ) → Bool
has_arm arms arm = found (λ (l : ℕ). eqb (get_or arms l 0) arm) 16

-- lane l with a filter where its arm is that of the filter, else as it is
abbrev pub arm_lane : (arm : ℕ) (filter : ℕ → List ℕ → List ℕ) (arms : List ℕ) (l : ℕ) (line : List ℕ) → List ℕ
arm_lane arm filter arms l line = cond (eqb (get_or arms l 0) arm) (filter l line) line

-- the filters of arm 1, and of arm 2 and 3
abbrev pub narrow_lane : (keys : List ℕ) (l : ℕ) (line : List ℕ) → List ℕ
narrow_lane keys l line = narrow_filter 8 (hev_mask (get_or keys l 0 % 64 / 16) line) line

abbrev pub wide_lane : (log2_size l : ℕ) (line : List ℕ) → List ℕ
wide_lane log2_size l line = wide_filter log2_size line

-- of the tables t before and u after: the lanes of one arm are filtered; where on is off there are none
pub record Stage (arm : ℕ) (filter : ℕ → List ℕ → List ℕ) (arms t u : List ℕ) (on : Bool) : Type 0 where
  pub lanes : EachLane 16 (arm_lane arm filter arms) t u
  pub long : length u ≡ 256
  pub none : on ≡ false → u ≡ t

-- whether taps outside p3 to q3 can change
abbrev pub beyond : Changed → Bool
beyond Nothing = false
beyond Inner = false
beyond Outer = true

-- of the tables t before and u after: each lane is filtered by its key
pub record Filtered (sharpness : ℕ) (keys t u : List ℕ) (r : Changed) : Type 0 where
  pub lanes : EachLane 16 (λ l. key_line sharpness 8 (get_or keys l 0)) t u
  pub long : length u ≡ 256
  -- nothing changes
  pub none : r ≡ Nothing → u ≡ t
  -- p3 to q3 alone can change
  pub inner : beyond r ≡ false → (l k : ℕ) → l < 16 → (k < 4) ⊎ (12 ≤ k) → tap (lane_of u l) k ≡ tap (lane_of t l) k
  -- other taps change by a key of size 2 alone
  pub large : found (λ (l : ℕ). leb 128 (get_or keys l 0)) 16 ≡ false → beyond r ≡ false
