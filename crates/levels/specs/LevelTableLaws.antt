-- Laws of the level table for its users: what stands at each place, how large it is, and where it is the standard's.
-- Assumes nothing.
use Rattle.std.specs.Prelude.{◌≡◌, refl, Bool, true, false, not, ◌&&◌, ℕ, ◌/◌, ◌%◌, ◌≤◌, ◌<◌, eqb, ℤ, get_or}
use Rattle.std.proofs.Common.{◌∙◌, zero-add, arith, le-ltb}
use Rattle.base.specs.Filled.{filled, filled_at}
use Rattle.base.specs.NotationLaws.{clip_below}
use Rattle.base.specs.Outcome.{held}
use Rattle.frame_header.specs.Params.{seg_feature_active}
use Rattle.level_lookup.specs.LevelLookup.{level_at, zero_levels}
use Rattle.levels.specs.Levels.{clipped_level, lvl_seg, intra_lvl, inter_lvl, entry_lvl, segment_lvl, place_lvl, frame_init}
use Rattle.frame_header.specs.declared.LoopFilterParams.{LoopFilterParams}
use Rattle.frame_header.specs.declared.SegmentationParams.{SegmentationParams}
use Rattle.frame_header.specs.declared.Deltas.{Deltas}

-- what is clipped is a level
pub level_small : (v : ℤ) → clipped_level v ≤ 63
unfolding clipped_level
level_small v = clip_below 0 63 63 v (omega arith) (omega arith)

pub segment_small : (lf : LoopFilterParams) (seg : SegmentationParams) (segment : ℕ) → lf.level ≤ 63 → lvl_seg lf seg segment ≤ 63
unfolding lvl_seg
segment_small lf seg segment h = cases (seg_feature_active seg segment 1) refl
  where
    cases : (t : Bool) → seg_feature_active seg segment 1 ≡ t → lvl_seg lf seg segment ≤ 63
    cases true e = rw e (level_small _)
    cases false e = rw e h

pub entry_small : (lf : LoopFilterParams) (deltas : Deltas) (lvl ref mode : ℕ) → lvl ≤ 63 → entry_lvl lf deltas lvl ref mode ≤ 63
unfolding entry_lvl intra_lvl inter_lvl
entry_small lf deltas lvl ref mode h =
    set (lf.delta_enabled && not (eqb ref 0 && not (eqb mode 0))) (eqb ref 0) lf.delta_update refl refl refl
  where
    set : (t s u : Bool) → (lf.delta_enabled && not (eqb ref 0 && not (eqb mode 0))) ≡ t → eqb ref 0 ≡ s → lf.delta_update ≡ u → entry_lvl lf deltas lvl ref mode ≤ 63
    set true true u e f g = rw (e, f) (level_small _)
    set true false u e f g = rw (e, f) (level_small _)
    set false s true e f g = rw (e, g) (omega arith)
    set false s false e f g = rw (e, g) h

-- where an entry stands says whose it is
placed : (segment ref mode : ℕ) (f : ℕ → ℕ → ℕ → ℕ) → ref < 4 → mode < 2 → let k = level_at segment ref mode in f (k / 8) (k % 8 / 2) (k % 2) ≡ f segment ref mode
placed segment ref mode f q r = rw (row, column, side)
  where
    row : level_at segment ref mode / 8 ≡ segment
    row = omega arith

    column : level_at segment ref mode % 8 / 2 ≡ ref
    column = omega arith

    side : level_at segment ref mode % 2 ≡ mode
    side = omega arith

module _ (lf : LoopFilterParams) (seg : SegmentationParams) (deltas : Deltas) (taken : lf.level ≤ 63) where
  pub table : held (frame_init lf seg deltas) zero_levels ≡ filled (place_lvl lf seg deltas) 0 64 zero_levels
  unfolding frame_init
  table = rw (le-ltb 63 lf.level taken)

  pub at : (k : ℕ) → k < 64 → get_or (held (frame_init lf seg deltas) zero_levels) k 0 ≡ place_lvl lf seg deltas k
  at k h = rw table (rw (zero-add k) at (filled_at (place_lvl lf seg deltas) 0 64 zero_levels k h (omega arith)))

  -- the table's entry of a segment, a reference and a mode type
  pub table_entry : (segment ref mode : ℕ) → segment < 8 → ref < 4 → mode < 2 → get_or (held (frame_init lf seg deltas) zero_levels) (level_at segment ref mode) 0 ≡ entry_lvl lf deltas (lvl_seg lf seg segment) ref mode
  unfolding place_lvl segment_lvl
  table_entry segment ref mode p q r =
      at (level_at segment ref mode) (omega arith)
      ∙ placed segment ref mode (λ s. entry_lvl lf deltas (lvl_seg lf seg s)) q r

  -- every entry is a level
  pub table_small : (k : ℕ) → k < 64 → get_or (held (frame_init lf seg deltas) zero_levels) k 0 ≤ 63
  unfolding place_lvl segment_lvl
  table_small k h = rw (at k h) (entry_small lf deltas (lvl_seg lf seg (k / 8)) (k % 8 / 2) (k % 2) (segment_small lf seg (k / 8) taken))
