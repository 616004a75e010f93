-- Level tables that have the standard's entries: any table, for its own entries, and the table of a header that can be coded.
-- Assumes nothing.
use Rattle.std.specs.Prelude.{◌≡◌, refl, true, List, ℕ, ◌≤◌, ◌<◌, pos, get_or}
use Rattle.std.proofs.Common.{◌∙◌, ap}
use Rattle.base.specs.Outcome.{held}
use Rattle.frame_header.specs.Params.{resolved_from, default_deltas}
use Rattle.frame_header.specs.declared.LoopFilterParams.{LoopFilterParams}
use Rattle.frame_header.specs.declared.SegmentationParams.{SegmentationParams}
use Rattle.level_lookup.specs.LevelLookup.{zero_levels, level_at}
use Rattle.levels.proofs.LevelTableLaws.{table_standard}
use Rattle.levels.specs.Levels.{level_table}
use Rattle.levels.specs.LevelsStandard.{header_of}
use Rattle.section_8_8.specs.LoopFilterProcess as Std
use Rattle.strength.specs.StrengthLaws.{mode_type_small}
use Rattle.strength.specs.StrengthStandard.{mode_type_standard}
use Rattle.standard.specs.FrameLists.{InRow, Entries}

pub entries_own : (f : Std.Frame) (base : ℕ) (levels : List ℕ) → Entries f base levels (λ segment ref mode. get_or levels (level_at segment ref mode) 0)
entries_own f base levels = record { entry = λ r c ref row is small known. refl }

-- The header updates deltas only while they are enabled, and the row's intra blocks have mode type 0: elsewhere document 01's table has
-- entries of its own.
pub entries_header : (f : Std.Frame) (base : ℕ) (lf : LoopFilterParams) (seg : SegmentationParams) → lf.level ≤ 63
    → (lf.delta_update ≡ true → lf.delta_enabled ≡ true)
    → ((r c : ℕ) → InRow f base r c → f.ref_frame r c ≡ pos 0 → Std.mode_type (f.y_mode r c) ≡ 0)
    → Entries f base (held (level_table lf seg) zero_levels) (Std.lvl_lookup (header_of lf seg (resolved_from default_deltas lf)))
unfolding level_table
entries_header f base lf seg taken coded intra = record {
  entry = λ r c ref row is small known.
      table_standard lf seg (resolved_from default_deltas lf) taken (f.segment_id r c) ref (Std.mode_type (f.y_mode r c)) known small (type_small (f.y_mode r c)) coded (λ z. intra r c row (is ∙ ap pos z));
}
  where
    type_small : (mode : ℕ) → Std.mode_type mode < 2
    type_small mode = rw (← mode_type_standard mode) (mode_type_small mode)
