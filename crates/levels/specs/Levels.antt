-- The level table of a frame: loop_filter_frame_init( ), 8.8.1.
-- Assumes nothing.
use Rattle.std.specs.Prelude.{cond, not, ◌&&◌, List, ℕ, ◌/◌, ◌%◌, eqb, ltb, ℤ, pos, nat_abs, ◌+ℤ◌, get_or, Result, Ok, Err}
use Rattle.base.specs.Filled.{filled}
use Rattle.base.specs.Notation.{clip3, shl_z}
use Rattle.base.specs.Fault.{number_of, place_of}
use Rattle.base.specs.Outcome.{Outcome, accepted, refused, refuse}
use Rattle.base.specs.declared.fault.Fault.{Fault}
use Rattle.frame_header.specs.Params.{seg_feature_active, feature_data, resolved_from, default_deltas}
use Rattle.frame_header.specs.declared.LoopFilterParams.{LoopFilterParams}
use Rattle.frame_header.specs.declared.SegmentationParams.{SegmentationParams}
use Rattle.frame_header.specs.declared.Deltas.{Deltas}
use Rattle.level_lookup.specs.LevelLookup.{zero_levels}
use Rattle.level_lookup.specs.declared.LvlLookup.{LvlLookup}

-- ---- the standard's process

-- Clip3( 0, MAX_LOOP_FILTER, v ), as a number
unfoldable pub clipped_level : ℤ → ℕ
clipped_level v = nat_abs (clip3 (pos 0) (pos 63) v)

-- nShift = loop_filter_level >> 5: the frame's level, for every segment
abbrev pub n_shift : LoopFilterParams → ℕ
n_shift lf = lf.level / 32

-- steps 1 and 2: lvlSeg. Feature 1 is SEG_LVL_ALT_L.
unfoldable pub lvl_seg : LoopFilterParams → SegmentationParams → ℕ → ℕ
lvl_seg lf seg segment =
    cond (seg_feature_active seg segment 1)
    (clipped_level
    (cond seg.abs_or_delta_update (feature_data seg segment 1) (feature_data seg segment 1 +ℤ pos lf.level)))
    lf.level

-- step 4, with the deltas that hold: the intra entry, and the entry of a reference and a mode type
unfoldable pub intra_lvl : LoopFilterParams → Deltas → ℕ → ℕ
intra_lvl lf deltas lvl = clipped_level (pos lvl +ℤ shl_z (get_or deltas.refs 0 (pos 0)) (n_shift lf))

unfoldable pub inter_lvl : LoopFilterParams → Deltas → ℕ → ℕ → ℕ → ℕ
inter_lvl lf deltas lvl ref mode =
    clipped_level
    (pos lvl +ℤ shl_z (get_or deltas.refs ref (pos 0)) (n_shift lf) +ℤ shl_z (get_or deltas.modes mode (pos 0)) (n_shift lf))

abbrev pub delta_lvl : LoopFilterParams → Deltas → ℕ → ℕ → ℕ → ℕ
delta_lvl lf deltas lvl ref mode = cond (eqb ref 0) (intra_lvl lf deltas lvl) (inter_lvl lf deltas lvl ref mode)

-- ---- document 01's table

-- document 01's entry, which follows the Rust. Step 3 tests delta_update, and what it leaves is 0; step 4 sets all entries
-- but that of intra and mode type 1.
unfoldable pub entry_lvl : LoopFilterParams → Deltas → ℕ → ℕ → ℕ → ℕ
entry_lvl lf deltas lvl ref mode =
    cond (lf.delta_enabled && not (eqb ref 0 && not (eqb mode 0)))
    (delta_lvl lf deltas lvl ref mode)
    (cond lf.delta_update 0 lvl)

-- the entry at place k of the flat table, in a segment whose level is lvl
unfoldable pub segment_lvl : LoopFilterParams → Deltas → ℕ → ℕ → ℕ
segment_lvl lf deltas lvl k = entry_lvl lf deltas lvl (k % 8 / 2) (k % 2)

unfoldable pub place_lvl : LoopFilterParams → SegmentationParams → Deltas → ℕ → ℕ
place_lvl lf seg deltas k = segment_lvl lf deltas (lvl_seg lf seg (k / 8)) k

-- LvlLookup, or refusal 6 for a frame level above 63
unfoldable pub frame_init : LoopFilterParams → SegmentationParams → Deltas → Outcome (List ℕ)
frame_init lf seg deltas = refuse (ltb 63 lf.level) 6 0 (accepted (filled (place_lvl lf seg deltas) 0 64 zero_levels))

-- document 01's operation: absent deltas are the defaults
unfoldable pub level_table : LoopFilterParams → SegmentationParams → Outcome (List ℕ)
level_table lf seg = frame_init lf seg (resolved_from default_deltas lf)

-- what the answer with a table comes to
abbrev pub table_outcome : Result LvlLookup Fault → Outcome (List ℕ)
table_outcome (Ok table) = accepted table.levels
table_outcome (Err e) = refused (number_of e) (place_of e)
