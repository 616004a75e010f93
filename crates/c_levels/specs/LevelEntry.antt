-- The level table at the C border, where arrays arrive as lists that may be too short.
-- Assumes nothing.
use Rattle.std.specs.Prelude.{Bool, false, cond, ◌||◌, List, [], ◌∷◌, map, ℕ, ltb, ℤ, pos, length, get_or, Option, Some, None}
use Rattle.std.specs.List.{range_with_len}
use Rattle.base.specs.Copied.{copied}
use Rattle.base.specs.Outcome.{Outcome, accepted, refuse, held}
use Rattle.level_lookup.specs.LevelLookup.{zero_levels}
use Rattle.levels.specs.Levels.{level_table}
use Rattle.frame_header.specs.declared.LoopFilterParams.{LoopFilterParams}
use Rattle.frame_header.specs.declared.SegmentationParams.{SegmentationParams}

-- number k, where its flag is set
abbrev pub delta_at : List ℤ → List Bool → ℕ → Option ℤ
delta_at deltas present k = cond (get_or present k false) (Some (get_or deltas k (pos 0))) None

-- four deltas by reference, then two by mode type. The level table does not read the sharpness.
abbrev pub params_of : ℕ → Bool → Bool → List ℤ → List Bool → LoopFilterParams
params_of level enabled update deltas present =
    record { level = level; sharpness = 0; delta_enabled = enabled; delta_update = update; ref_deltas = delta_at deltas present 0 ∷ delta_at deltas present 1 ∷ delta_at deltas present 2 ∷ delta_at deltas present 3 ∷ []; mode_deltas = delta_at deltas present 4 ∷ delta_at deltas present 5 ∷ [] }

abbrev pub segments_of : Bool → Bool → List Bool → List ℤ → SegmentationParams
segments_of enabled abs on features =
    record { enabled = enabled; abs_or_delta_update = abs; features = map (delta_at features on) (range_with_len 0 32) }

-- 6 as for the level table, then 7 for a list that is too short; else the first 64 levels are the table's
unfoldable pub level_entry : ℕ → Bool → Bool → List ℤ → List Bool → Bool → Bool → List Bool → List ℤ → List ℕ → Outcome (List ℕ)
level_entry level enabled update deltas present segments abs on features levels =
    refuse (ltb 63 level) 6 0
    (refuse (ltb (length deltas) 6 || ltb (length present) 6 || ltb (length on) 32 || ltb (length features) 32 || ltb (length levels) 64) 7 0
    (accepted (copied (held (level_table (params_of level enabled update deltas present) (segments_of segments abs on features)) zero_levels) 64 levels)))
