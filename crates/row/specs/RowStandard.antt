-- A row that was accepted: what its words say, and that these are the standard's values at their cells.
-- Assumes nothing.
use Rattle.std.specs.Prelude.{◌≡◌, Bool, not, ◌&&◌, ◌||◌, List, ℕ, ◌≤◌, ◌<◌, ◌^◌, eqb, ltb, ℤ, pos, negsuc, get_or}
use Rattle.std.proofs.Math.Path.{refl, ap}
use Rattle.std.proofs.Common.{sym, ◌∙◌, inr, zero-add, arith}
use Rattle.std.proofs.Math.Bool.{true, false, cond}
use Rattle.base.specs.Depth.{supported}
use Rattle.base.specs.Filled.{filled, filled_at, filled_other}
use Rattle.base.specs.First.{found, found-false}
use Rattle.base.specs.Outcome.{accepted}
use Rattle.base.specs.OutcomeLaws.{passed, result_is}
use Rattle.blocks.specs.BlockSizes.{mi_width_log2, mi_height_log2, num8x8_wide, num8x8_high}
use Rattle.blocks.specs.BlocksStandard.{wide_standard, high_standard, sb_size_standard, is_intra_standard}
use Rattle.blocks.specs.ModeInfo.{sb_size, is_intra}
use Rattle.blocks.specs.ModeInfoLaws.{block, sb_size_small}
use Rattle.chroma_transforms.specs.ChromaTransforms.{uv_tx_size}
use Rattle.chroma_transforms.specs.ChromaTransformsLaws.{uv_tx_small}
use Rattle.chroma_transforms.proofs.ChromaTransformsStandard.{uv_tx_standard}
use Rattle.geometry.specs.Frame.{bad_subsampling, bad_frame_size, bad_start, cells_from}
use Rattle.level_lookup.specs.LevelLookup.{level_at}
use Rattle.level_lookup.specs.LevelLookupLaws.{lookup_entry, lookup_segment, lookup_large, lookup_negative}
use Rattle.strength.specs.Strength.{mode_type}
use Rattle.section_8_8.specs.LoopFilterProcess as Std
use Rattle.strength.specs.StrengthLaws.{mode_type_small}
use Rattle.strength.specs.StrengthStandard.{mode_type_standard}
use Rattle.cells.specs.Cell.{cell_of, width_log2, height_log2, tx_of}
use Rattle.cells.specs.CellLaws.{fields_back}
use Rattle.row.specs.Row.{cell_from, ModeInfo, cell_at, word_at, bad_level, too_short, bad_at, row}
use Rattle.row.specs.RowLaws.{long, cell_fits}
use Rattle.cells.specs.declared.LfCell.{LfCell}

-- its tests are passed, and this is its result
pub record Made (m : ModeInfo) (levels : List ℕ) (sub_x sub_y : Bool) (n : ℕ) (cells result : List ℕ) : Type 0 where
  pub levels_fit : found (bad_level levels) 64 ≡ false
  pub lists_fit : too_short m cells n ≡ false
  pub blocks_fit : found (bad_at m) n ≡ false
  pub result_is : result ≡ filled (word_at m levels sub_x sub_y) 0 n cells

pub row_made : (m : ModeInfo) (levels : List ℕ) (sharpness depth sub_x sub_y mi_cols mi_rows base : ℕ) (cells result : List ℕ) → row m levels sharpness depth sub_x sub_y mi_cols mi_rows base cells ≡ accepted result → Made m levels (eqb sub_x 1) (eqb sub_y 1) (cells_from base mi_cols mi_rows) cells result
unfolding row
row_made m levels sharpness depth sub_x sub_y mi_cols mi_rows base cells result e =
    let t1 = passed (ltb 7 sharpness) 1 0 _ e in
    let t2 = passed (not (supported depth)) 2 0 _ t1.1 in
    let t3 = passed (bad_subsampling sub_x sub_y) 3 0 _ t2.1 in
    let t4 = passed (bad_frame_size mi_cols mi_rows) 4 0 _ t3.1 in
    let t5 = passed (bad_start base mi_rows) 5 0 _ t4.1 in
    let t6 = passed (found (bad_level levels) 64) 6 _ _ t5.1 in
    let t7 = passed (too_short m cells (cells_from base mi_cols mi_rows)) 7 0 _ t6.1 in
    let t8 = passed (found (bad_at m) (cells_from base mi_cols mi_rows)) 8 _ _ t7.1 in
    record { levels_fit = t6.0; lists_fit = t7.0; blocks_fit = t8.0; result_is = sym (result_is t8.1) }

-- each word, read by its fields, is the cell
pub row_cell : (m : ModeInfo) (levels : List ℕ) (sub_x sub_y : Bool) (n : ℕ) (cells result : List ℕ) → Made m levels sub_x sub_y n cells result → (k : ℕ) → k < n → cell_of (get_or result k 0) ≡ cell_at m levels sub_x sub_y k
unfolding cell_at
row_cell m levels sub_x sub_y n cells result made k h =
    let b = block _ _ _ (found-false (bad_at m) n made.blocks_fit k h) in
    let l = long m cells n made.lists_fit in
    let at = rw (zero-add k) at (filled_at (word_at m levels sub_x sub_y) 0 n cells k h (omega (arith, l.cells))) in
    rw (made.result_is, at) (fields_back _ (cell_fits levels _ _ _ _ _ _ _ b.size b.tx (omega (arith, b.tx, uv_tx_small (get_or m.txs k 0) (get_or m.sizes k 0) sub_x sub_y)) made.levels_fit))

-- and what stood behind the row's cells stands there still
pub row_left : (m : ModeInfo) (levels : List ℕ) (sub_x sub_y : Bool) (n : ℕ) (cells result : List ℕ) → Made m levels sub_x sub_y n cells result → (k : ℕ) → n ≤ k → get_or result k 0 ≡ get_or cells k 0
row_left m levels sub_x sub_y n cells result made k h =
    rw made.result_is (filled_other (word_at m levels sub_x sub_y) 0 n cells k (inr (omega arith)))

-- what a cell's fields are to be: the standard's values for the cell's mode info
pub record Standard (levels : List ℕ) (sub_x sub_y mi_size tx_size skip : ℕ) (ref_frame : ℤ) (y_mode segment : ℕ) (c : LfCell) : Type 0 where
  -- the width and height of sbSize (step 7), in each subsampling
  pub wide : (sub : ℕ) → sub ≤ 1 → 2 ^ width_log2 c (eqb sub 1) ≡ Std.num8x8_blocks_wide (Std.sb_size sub mi_size)
  pub high : (sub : ℕ) → sub ≤ 1 → 2 ^ height_log2 c (eqb sub 1) ≡ Std.num8x8_blocks_high (Std.sb_size sub mi_size)
  -- txSz (step 6), in plane 0 and in the others
  pub luma_tx : tx_of c false ≡ tx_size
  pub chroma_tx : tx_of c true ≡ Std.uv_tx_size tx_size mi_size sub_x sub_y
  -- skip and isIntra (steps 8 and 9), as step 14 joins them
  pub filtered : not c.skipped ≡ (Std.is_intra ref_frame || not (eqb skip 1))
  -- lvl (8.8.4), where there is such an entry
  pub lvl : (ref : ℕ) → ref_frame ≡ pos ref → ref < 4 → segment < 8 → (c.present ≡ true) × (c.level ≡ get_or levels (level_at segment ref (Std.mode_type y_mode)) 0)
  -- document 01's cell without level
  pub no_segment : 8 ≤ segment → (c.present ≡ false) × (c.level ≡ 0)
  pub no_reference : (ref : ℕ) → ref_frame ≡ pos ref → 4 ≤ ref → (c.present ≡ false) × (c.level ≡ 0)
  pub negative : (n : ℕ) → ref_frame ≡ negsuc n → (c.present ≡ false) × (c.level ≡ 0)

module _ (levels : List ℕ) (sub_x sub_y mi_size tx_size skip : ℕ) (ref_frame : ℤ) (y_mode segment : ℕ) (size : mi_size ≤ 12) (x : sub_x ≤ 1) (y : sub_y ≤ 1) where
  cell_standard : Standard levels sub_x sub_y mi_size tx_size skip ref_frame y_mode segment (cell_from levels mi_size tx_size (uv_tx_size tx_size mi_size (eqb sub_x 1) (eqb sub_y 1)) skip ref_frame y_mode segment)
  unfolding cell_from num8x8_wide num8x8_high
  cell_standard =
      record {
        wide = λ sub h. wide (eqb sub 1) ∙ wide_standard _ (sb_size_small (eqb sub 1) mi_size size) ∙ ap Std.num8x8_blocks_wide (sb_size_standard sub mi_size h);
        high = λ sub h. high (eqb sub 1) ∙ high_standard _ (sb_size_small (eqb sub 1) mi_size size) ∙ ap Std.num8x8_blocks_high (sb_size_standard sub mi_size h);
        luma_tx = refl;
        chroma_tx = uv_tx_standard tx_size mi_size sub_x sub_y size x y;
        filtered = rw (← is_intra_standard ref_frame) (joined (eqb skip 1) (is_intra ref_frame));
        lvl = λ ref e p q. rw (e, lookup_entry levels segment ref (mode_type y_mode) q p (mode_type_small y_mode), mode_type_standard) (refl, refl);
        no_segment = λ p. rw (lookup_segment levels segment ref_frame (mode_type y_mode) p) (refl, refl);
        no_reference = λ ref e p. rw (e, lookup_large levels segment ref (mode_type y_mode) p) (refl, refl);
        negative = λ n e. rw (e, lookup_negative levels segment n (mode_type y_mode)) (refl, refl);
      }
    where
      wide : (sub : Bool) → 2 ^ cond sub (mi_width_log2 (sb_size true mi_size)) (mi_width_log2 (sb_size false mi_size)) ≡ num8x8_wide (sb_size sub mi_size)
      wide true = refl
      wide false = refl

      high : (sub : Bool) → 2 ^ cond sub (mi_height_log2 (sb_size true mi_size)) (mi_height_log2 (sb_size false mi_size)) ≡ num8x8_high (sb_size sub mi_size)
      high true = refl
      high false = refl

      joined : (skip intra : Bool) → not (skip && not intra) ≡ (intra || not skip)
      joined true true = refl
      joined true false = refl
      joined false true = refl
      joined false false = refl

-- the words of an accepted row say the standard's values at their cells
pub row_standard : (m : ModeInfo) (levels : List ℕ) (sub_x sub_y n : ℕ) (cells result : List ℕ) → Made m levels (eqb sub_x 1) (eqb sub_y 1) n cells result → sub_x ≤ 1 → sub_y ≤ 1 → (k : ℕ) → k < n → Standard levels sub_x sub_y (get_or m.sizes k 0) (get_or m.txs k 0) (get_or m.skips k 0) (get_or m.refs k (pos 0)) (get_or m.modes k 0) (get_or m.segments k 0) (cell_of (get_or result k 0))
unfolding cell_at
row_standard m levels sub_x sub_y n cells result made x y k h =
    let b = block _ _ _ (found-false (bad_at m) n made.blocks_fit k h) in
    rw (row_cell m levels (eqb sub_x 1) (eqb sub_y 1) n cells result made k h)
    (cell_standard levels sub_x sub_y _ _ _ _ _ _ b.size x y)
