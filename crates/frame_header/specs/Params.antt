-- What the header's records say: which segmentation features are active, and which deltas hold.
-- Assumes nothing.
use Rattle.std.specs.Prelude.{Bool, cond, ◌&&◌, [], ◌∷◌, ℕ, ◌+◌, ◌*◌, ltb, ℤ, pos, neg_ℤ, get_or, Option, Some, None, is_some, unwrap_or}
use Rattle.frame_header.specs.declared.LoopFilterParams.{LoopFilterParams}
use Rattle.frame_header.specs.declared.SegmentationParams.{SegmentationParams}
use Rattle.frame_header.specs.declared.Deltas.{Deltas}

-- where the flat lists hold a segment's feature
abbrev pub feature_at : ℕ → ℕ → ℕ
feature_at segment feature = segment * 4 + feature

-- a segment's feature, where segmentation is enabled. Segments above 7 and features above 3 do not exist, and are not active.
unfoldable pub active_feature : SegmentationParams → ℕ → ℕ → Option ℤ
active_feature seg segment feature =
    cond (ltb segment 8 && ltb feature 4 && seg.enabled) (get_or seg.features (feature_at segment feature) None) None

-- seg_feature_active( feature ): 6.4.9
unfoldable pub seg_feature_active : SegmentationParams → ℕ → ℕ → Bool
seg_feature_active seg segment feature = is_some (active_feature seg segment feature)

-- FeatureData[ segment ][ feature ]
abbrev pub feature_data : SegmentationParams → ℕ → ℕ → ℤ
feature_data seg segment feature = unwrap_or (get_or seg.features (feature_at segment feature) None) (pos 0)

-- the delta that holds: the header's, or where that is absent the one that held before
abbrev pub resolved_delta : ℤ → Option ℤ → ℤ
resolved_delta before d = unwrap_or d before

abbrev pub absent : Option ℤ
absent = None

-- loop_filter_ref_deltas and loop_filter_mode_deltas
unfoldable pub resolved_from : Deltas → LoopFilterParams → Deltas
resolved_from before lf =
    record { refs = ref_delta 0 ∷ ref_delta 1 ∷ ref_delta 2 ∷ ref_delta 3 ∷ []; modes = mode_delta 0 ∷ mode_delta 1 ∷ [] }
  where
    ref_delta : ℕ → ℤ
    ref_delta k = resolved_delta (get_or before.refs k (pos 0)) (get_or lf.ref_deltas k absent)

    mode_delta : ℕ → ℤ
    mode_delta k = resolved_delta (get_or before.modes k (pos 0)) (get_or lf.mode_deltas k absent)

-- the deltas of setup_past_independence( ), which document 01 takes where the header has none
abbrev pub default_deltas : Deltas
default_deltas = record { refs = pos 1 ∷ pos 0 ∷ neg_ℤ (pos 1) ∷ neg_ℤ (pos 1) ∷ []; modes = pos 0 ∷ pos 0 ∷ [] }
