-- The level table is the page's (`table_standard`).
-- Assumes nothing.
use Rattle.std.specs.Prelude.{◌≡◌, true, ℕ, ◌≤◌, ◌<◌, get_or}
use Rattle.std.proofs.Common.{◌∙◌}
use Rattle.base.specs.Outcome.{held}
use Rattle.level_lookup.specs.LevelLookup.{level_at, zero_levels}
use Rattle.section_8_8.specs.LoopFilterProcess as Std
use Rattle.levels.specs.Levels.{frame_init}
use Rattle.levels.specs.LevelsStandard.{header_of, entry_standard}
use Rattle.frame_header.specs.declared.LoopFilterParams.{LoopFilterParams}
use Rattle.frame_header.specs.declared.SegmentationParams.{SegmentationParams}
use Rattle.frame_header.specs.declared.Deltas.{Deltas}
use Rattle.levels.specs.LevelTableLaws.{table_entry}

module _ (lf : LoopFilterParams) (seg : SegmentationParams) (deltas : Deltas) (taken : lf.level ≤ 63) where
  -- a header updates deltas only while they are enabled, and an intra block has mode type 0: then the entry is the standard's
  pub table_standard : (segment ref mode : ℕ) → segment < 8 → ref < 4 → mode < 2 → (lf.delta_update ≡ true → lf.delta_enabled ≡ true) → (ref ≡ 0 → mode ≡ 0) → get_or (held (frame_init lf seg deltas) zero_levels) (level_at segment ref mode) 0 ≡ Std.lvl_lookup (header_of lf seg deltas) segment ref mode
  table_standard segment ref mode p q r coded intra =
      (table_entry lf seg deltas taken) segment ref mode p q r ∙ entry_standard lf seg deltas segment ref mode coded intra
