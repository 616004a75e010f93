-- The level of a segment and of an entry is the standard's, for a header that can be coded.
-- Assumes nothing.
use Rattle.std.specs.Prelude.{◌≡◌, Bool, ℕ, pos, get_or}
use Rattle.std.proofs.Math.Path.{refl}
use Rattle.std.proofs.Common.{sym, ◌∙◌, true≢false, eq-eqb, eqb-true}
use Rattle.std.proofs.Math.Bool.{true, false}
use Rattle.std.proofs.Math.Dec.{eqb}
use Rattle.section_8_8.specs.LoopFilterProcess as Std
use Rattle.frame_header.specs.Params.{seg_feature_active, feature_data}
use Rattle.frame_header.specs.declared.LoopFilterParams.{LoopFilterParams}
use Rattle.frame_header.specs.declared.SegmentationParams.{SegmentationParams}
use Rattle.frame_header.specs.declared.Deltas.{Deltas}
use Rattle.levels.specs.Levels.{clipped_level, lvl_seg, intra_lvl, inter_lvl, entry_lvl}

-- the header values of 8.8.1, with the deltas that hold; feature 1 is SEG_LVL_ALT_L
abbrev pub header_of : LoopFilterParams → SegmentationParams → Deltas → Std.Header
header_of lf seg deltas =
    record {
      loop_filter_level = lf.level;
      delta_enabled = lf.delta_enabled;
      ref_deltas = λ ref. get_or deltas.refs ref (pos 0);
      mode_deltas = λ mode. get_or deltas.modes mode (pos 0);
      absolute = seg.abs_or_delta_update;
      feature_active = λ segment. seg_feature_active seg segment 1;
      feature_data = λ segment. feature_data seg segment 1;
    }

module _ (lf : LoopFilterParams) (seg : SegmentationParams) (deltas : Deltas) where
  pub lvl_seg_standard : (segment : ℕ) → lvl_seg lf seg segment ≡ Std.lvl_seg (header_of lf seg deltas) segment
  unfolding lvl_seg clipped_level Std.lvl_seg
  lvl_seg_standard segment = refl

  -- steps 3 and 4, under the premises of `table_standard`
  pub entry_standard : (segment ref mode : ℕ) → (lf.delta_update ≡ true → lf.delta_enabled ≡ true) → (ref ≡ 0 → mode ≡ 0) → entry_lvl lf deltas (lvl_seg lf seg segment) ref mode ≡ Std.lvl_lookup (header_of lf seg deltas) segment ref mode
  unfolding entry_lvl intra_lvl inter_lvl clipped_level Std.lvl_lookup
  entry_standard segment ref mode coded intra =
      rw (lvl_seg_standard segment) (cases lf.delta_enabled lf.delta_update (eqb ref 0) refl refl refl)
    where
      cases : (t u s : Bool) → lf.delta_enabled ≡ t → lf.delta_update ≡ u → eqb ref 0 ≡ s → entry_lvl lf deltas (Std.lvl_seg (header_of lf seg deltas) segment) ref mode ≡ Std.lvl_lookup (header_of lf seg deltas) segment ref mode
      cases true u true e f g = rw (e, g, eq-eqb mode 0 (intra (eqb-true ref 0 g)), eqb-true ref 0 g)
      cases true u false e f g = rw (e, g)
      cases false false s e f g = rw (e, f)
      cases false true s e f g = absurd (true≢false (sym (coded f) ∙ e))
