-- Laws of the level table's definitions, for its functions' proofs.
-- Assumes nothing.
use Rattle.std.specs.Prelude.{◌≡◌, true, false, List, ℕ, ℤ, ◌+◌, ◌*◌, ◌/◌, ◌<◌, pos, nat_abs, ◌+ℤ◌, get_or, replicate}
use Rattle.std.specs.Int.Signed.{lt_z}
use Rattle.std.proofs.Common.{◌∙◌, zero-add, arith, ne_eqb}
use Rattle.std.proofs.Math.IntN.{+ℤ_assoc}
use Rattle.base.specs.Filled.{filled, filled_at, filled_join, filled_same}
use Rattle.base.specs.Notation.{clip3, shl_z}
use Rattle.levels.specs.Levels.{clipped_level, n_shift, lvl_seg, inter_lvl, delta_lvl, entry_lvl, segment_lvl, place_lvl}
use Rattle.frame_header.specs.declared.LoopFilterParams.{LoopFilterParams}
use Rattle.frame_header.specs.declared.SegmentationParams.{SegmentationParams}
use Rattle.frame_header.specs.declared.Deltas.{Deltas}

-- a level is clipped at 0 and at 63, and else kept
pub level_low : (v : ℤ) → lt_z v (pos 0) ≡ true → 0 ≡ clipped_level v
unfolding clipped_level clip3
level_low v low = rw low

pub level_high : (v : ℤ) → lt_z v (pos 0) ≡ false → lt_z (pos 63) v ≡ true → 63 ≡ clipped_level v
unfolding clipped_level clip3
level_high v low high = rw (low, high)

pub level_kept : (v : ℤ) → lt_z v (pos 0) ≡ false → lt_z (pos 63) v ≡ false → nat_abs v ≡ clipped_level v
unfolding clipped_level clip3
level_kept v low high = rw (low, high)

-- a level with the sum of its two deltas
pub delta_sum : (lf : LoopFilterParams) (deltas : Deltas) (lvl ref mode : ℕ) → (ref ≡ 0 → ⊥) → clipped_level (pos lvl +ℤ (shl_z (get_or deltas.refs ref (pos 0)) (n_shift lf) +ℤ shl_z (get_or deltas.modes mode (pos 0)) (n_shift lf))) ≡ delta_lvl lf deltas lvl ref mode
unfolding inter_lvl
delta_sum lf deltas lvl ref mode h = rw (ne_eqb ref 0 h, +ℤ_assoc)

-- where deltas are off and updated, the segment's level does not count
pub none_counts : (lf : LoopFilterParams) (deltas : Deltas) (lvl other k : ℕ) → lf.delta_enabled ≡ false → lf.delta_update ≡ true → segment_lvl lf deltas lvl k ≡ segment_lvl lf deltas other k
unfolding entry_lvl segment_lvl
none_counts lf deltas lvl other k off on = rw (off, on)

-- the level of a segment, of those of all eight
pub of_segments : (t : ℕ → ℕ) (segment : ℕ) → segment < 8 → get_or (filled t 0 8 (replicate 8 0)) segment 0 ≡ t segment
of_segments t segment h = rw (zero-add segment) at (filled_at t 0 8 (replicate 8 0) segment h (omega arith))

-- an entry of a segment is the table's entry at its place
same : (lf : LoopFilterParams) (seg : SegmentationParams) (deltas : Deltas) (segment k : ℕ) → k < 8 → segment_lvl lf deltas (lvl_seg lf seg segment) (segment * 8 + k) ≡ place_lvl lf seg deltas (segment * 8 + k)
unfolding place_lvl
same lf seg deltas segment k h = let e : (segment * 8 + k) / 8 ≡ segment = omega arith in rw e

-- the segments before this one, and then its own eight entries, from a level that counts as its own does
pub segment_more : (lf : LoopFilterParams) (seg : SegmentationParams) (deltas : Deltas) (lvl segment : ℕ) (l : List ℕ) → ((k : ℕ) → segment_lvl lf deltas lvl k ≡ segment_lvl lf deltas (lvl_seg lf seg segment) k) → filled (segment_lvl lf deltas lvl) (segment * 8) 8 (filled (place_lvl lf seg deltas) 0 (segment * 8) l) ≡ filled (place_lvl lf seg deltas) 0 ((segment + 1) * 8) l
segment_more lf seg deltas lvl segment l counts =
    let place = place_lvl lf seg deltas in
    let before = filled place 0 (segment * 8) l in
    filled_same (segment_lvl lf deltas lvl) place (segment * 8) 8 before (λ k h. counts (segment * 8 + k) ∙ same lf seg deltas segment k h)
    ∙ rw (zero-add (segment * 8), ends) at (filled_join place 0 (segment * 8) 8 l)
  where
    ends : segment * 8 + 8 ≡ (segment + 1) * 8
    ends = omega arith
