-- Table M of document 01: worked examples, each with what the definitions give for it. One list, and one computed result.
-- Assumes nothing.
use Rattle.std.specs.Prelude.{◌≡◌, refl, Bool, true, false, Some, None, List, [], ◌∷◌, ◌++◌, map, ℕ, pos, replicate, set, take, drop}
use Rattle.base.specs.Depth.{supported}
use Rattle.base.specs.Filled.{filled}
use Rattle.base.specs.First.{found, first_from}
use Rattle.base.specs.Notation.{clip3}
use Rattle.base.specs.Outcome.{Outcome, accepted, refused, held}
use Rattle.frame_header.specs.Params.{active_feature, seg_feature_active, feature_at, resolved_from, absent}
use Rattle.levels.specs.Levels.{clipped_level, lvl_seg, intra_lvl, inter_lvl, entry_lvl, segment_lvl, place_lvl, frame_init, level_table}
use Rattle.base.specs.Width.{U16}
use Rattle.line.specs.Line.{line}
use Rattle.line.specs.Masks.{hev_mask, filter_mask, flat_at, flat_mask, flat_mask2}
use Rattle.line.specs.NarrowFilter.{c, sample, narrow_filter}
use Rattle.line.specs.SampleFiltering.{sample_filtering}
use Rattle.wide_filter.specs.WideFilter.{sum_to, smoothed, wide_filter}
use Rattle.strength.specs.Strength.{limit_of, strength_of, strength_for}
use Rattle.strength.specs.declared.FilterStrength.{FilterStrength}
use Rattle.frame_header.specs.declared.LoopFilterParams.{LoopFilterParams}
use Rattle.frame_header.specs.declared.SegmentationParams.{SegmentationParams}

-- a row: the numbers that the definitions give, and those of the document
pub record Row : Type 0 where
  pub given : List ℕ
  pub stated : List ℕ

abbrev row : List ℕ → List ℕ → Row
row given stated = record { given = given; stated = stated }

-- limit, blimit, thresh
strength : ℕ → ℕ → List ℕ
strength lvl sharpness = numbers (strength_for lvl sharpness)
  where
    numbers : Outcome FilterStrength → List ℕ
    numbers (accepted s) = s.limit ∷ s.blimit ∷ s.thresh ∷ []
    numbers (refused number place) = []

-- level 40, deltas enabled, not updated, absent
header : LoopFilterParams
header =
    record { level = 40; sharpness = 0; delta_enabled = true; delta_update = false; ref_deltas = replicate 4 absent; mode_deltas = replicate 2 absent }

-- segment 0 has the absolute level 20, which counts where segments are enabled
segments : Bool → SegmentationParams
segments on =
    record { enabled = on; abs_or_delta_update = on; features = set (replicate 32 None) (feature_at 0 1) (Some (pos 20)) }

-- the first entries of segment 0: intra, last, golden, altref, each for mode types 0 and 1
levels : Bool → ℕ → List ℕ
levels on n = take n (held (level_table header (segments on)) [])

-- all p the one, all q the other
step : ℕ → ℕ → List ℕ
step p q = replicate 8 p ++ replicate 8 q

-- n samples of a line from place k on, filtered with the strength of level 32 at sharpness 0
filtered : ℕ → ℕ → ℕ → ℕ → List ℕ → List ℕ
filtered depth size k n t = numbers (strength_for 32 0)
  where
    numbers : Outcome FilterStrength → List ℕ
    numbers (accepted s) = take n (drop k (held (line U16 depth size s.limit s.blimit s.thresh t) []))
    numbers (refused number place) = []

-- M1 to M5 are strengths, M6 and M7 level tables, M8 to M12 lines
pub rows : List Row
rows =
    row (strength 0 0) (1 ∷ 5 ∷ 0 ∷ [])
    ∷ row (strength 63 0) (63 ∷ 193 ∷ 3 ∷ [])
    ∷ row (strength 63 7) (2 ∷ 132 ∷ 3 ∷ [])
    ∷ row (strength 32 4) (5 ∷ 73 ∷ 2 ∷ [])
    ∷ row (strength 32 5) (4 ∷ 72 ∷ 2 ∷ [])
    ∷ row (levels false 8) (42 ∷ 40 ∷ 40 ∷ 40 ∷ 38 ∷ 38 ∷ 38 ∷ 38 ∷ [])
    ∷ row (levels true 1) (22 ∷ [])
    ∷ row (filtered 8 0 6 4 (step 100 104)) (101 ∷ 101 ∷ 102 ∷ 103 ∷ [])
    ∷ row (filtered 8 1 5 6 (step 100 104)) (101 ∷ 101 ∷ 102 ∷ 103 ∷ 103 ∷ 104 ∷ [])
    ∷ row (filtered 8 2 1 14 (step 100 104)) (100 ∷ 101 ∷ 101 ∷ 101 ∷ 101 ∷ 102 ∷ 102 ∷ 102 ∷ 103 ∷ 103 ∷ 103 ∷ 103 ∷ 104 ∷ 104 ∷ [])
    ∷ row (filtered 8 0 6 4 (set (step 100 104) 7 110)) (100 ∷ 107 ∷ 107 ∷ 104 ∷ [])
    ∷ row (filtered 10 0 6 4 (step 400 416)) (403 ∷ 406 ∷ 410 ∷ 413 ∷ [])
    ∷ []

pub table_m : map (λ (r : Row). r.given) rows ≡ map (λ (r : Row). r.stated) rows
unfolding rows strength strength_for strength_of limit_of levels header segments level_table frame_init filled place_lvl segment_lvl entry_lvl intra_lvl inter_lvl lvl_seg clipped_level clip3 active_feature seg_feature_active resolved_from step filtered line supported found first_from sample_filtering filter_mask hev_mask flat_mask flat_mask2 flat_at narrow_filter c sample wide_filter smoothed sum_to
table_m = refl
