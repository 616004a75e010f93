-- Document 01's row: the packed cells of a superblock row, from the mode info of its cells and the level table, with refusals.
-- Assumes nothing.
use Rattle.std.specs.Prelude.{Bool, true, false, not, ◌&&◌, ◌||◌, List, ℕ, eqb, ltb, ℤ, pos, length, get_or, is_some, unwrap_or}
use Rattle.base.specs.Depth.{supported}
use Rattle.base.specs.Filled.{filled}
use Rattle.base.specs.First.{refuse_first}
use Rattle.base.specs.Outcome.{Outcome, accepted, refuse}
use Rattle.blocks.specs.BlockSizes.{mi_width_log2, mi_height_log2}
use Rattle.chroma_transforms.specs.ChromaTransforms.{uv_tx_size}
use Rattle.blocks.specs.ModeInfo.{bad_block, sb_size, is_intra}
use Rattle.geometry.specs.Frame.{bad_subsampling, bad_frame_size, bad_start, cells_from}
use Rattle.level_lookup.specs.LevelLookup.{lookup_of}
use Rattle.strength.specs.Strength.{mode_type}
use Rattle.cells.specs.Cell.{packed}
use Rattle.cells.specs.declared.LfCell.{LfCell}

-- ---- one cell

-- what the pass reads of a cell, from its mode info and its chroma transform. An absent level is written 0.
unfoldable pub cell_from : (levels : List ℕ) (mi_size tx_size uv_tx skip : ℕ) (ref_frame : ℤ) (y_mode segment : ℕ) → LfCell
cell_from levels mi_size tx_size uv_tx skip ref_frame y_mode segment =
    let lvl = lookup_of levels segment ref_frame (mode_type y_mode) in
    record {
      width0 = mi_width_log2 (sb_size false mi_size);
      width1 = mi_width_log2 (sb_size true mi_size);
      height0 = mi_height_log2 (sb_size false mi_size);
      height1 = mi_height_log2 (sb_size true mi_size);
      tx = tx_size;
      uvtx = uv_tx;
      skipped = eqb skip 1 && not (is_intra ref_frame);
      present = is_some lvl;
      level = unwrap_or lvl 0;
    }

-- ---- the row

-- the mode info of a superblock row's cells, in raster order: MiSizes, TxSizes, Skips, RefFrames of list 0, YModes, SegmentIds
pub record ModeInfo : Type 0 where
  pub sizes : List ℕ
  pub txs : List ℕ
  pub skips : List ℕ
  pub refs : List ℤ
  pub modes : List ℕ
  pub segments : List ℕ

abbrev pub mode_info : (sizes txs skips : List ℕ) (refs : List ℤ) (modes segments : List ℕ) → ModeInfo
mode_info sizes txs skips refs modes segments =
    record { sizes = sizes; txs = txs; skips = skips; refs = refs; modes = modes; segments = segments }

unfoldable pub cell_at : ModeInfo → (levels : List ℕ) (sub_x sub_y : Bool) (k : ℕ) → LfCell
cell_at m levels sub_x sub_y k =
    cell_from levels (get_or m.sizes k 0) (get_or m.txs k 0) (uv_tx_size (get_or m.txs k 0) (get_or m.sizes k 0) sub_x sub_y) (get_or m.skips k 0) (get_or m.refs k (pos 0)) (get_or m.modes k 0) (get_or m.segments k 0)

abbrev pub word_at : ModeInfo → (levels : List ℕ) (sub_x sub_y : Bool) (k : ℕ) → ℕ
word_at m levels sub_x sub_y k = packed (cell_at m levels sub_x sub_y k)

-- 6: an entry of the level table above 63
abbrev pub bad_level : (levels : List ℕ) (k : ℕ) → Bool
bad_level levels k = ltb 63 (get_or levels k 0)

-- 7: a list with fewer than n entries
unfoldable pub lists_short : ModeInfo → (n : ℕ) → Bool
lists_short m n =
    ltb (length m.sizes) n || ltb (length m.txs) n || ltb (length m.skips) n || ltb (length m.refs) n || ltb (length m.modes) n || ltb (length m.segments) n

unfoldable pub too_short : ModeInfo → (cells : List ℕ) (n : ℕ) → Bool
too_short m cells n = lists_short m n || ltb (length cells) n

-- 8: a cell's size, transform or skip
abbrev pub bad_block_at : (sizes txs skips : List ℕ) (k : ℕ) → Bool
bad_block_at sizes txs skips k = bad_block (get_or sizes k 0) (get_or txs k 0) (get_or skips k 0)

abbrev pub bad_at : ModeInfo → (k : ℕ) → Bool
bad_at m k = bad_block_at m.sizes m.txs m.skips k

-- the words of the row's cells come first in the list; what stands behind them is left
unfoldable pub row : ModeInfo → (levels : List ℕ) (sharpness depth sub_x sub_y mi_cols mi_rows base : ℕ) (cells : List ℕ) → Outcome (List ℕ)
row m levels sharpness depth sub_x sub_y mi_cols mi_rows base cells =
    let n = cells_from base mi_cols mi_rows in
    refuse (ltb 7 sharpness) 1 0
    (refuse (not (supported depth)) 2 0
    (refuse (bad_subsampling sub_x sub_y) 3 0
    (refuse (bad_frame_size mi_cols mi_rows) 4 0
    (refuse (bad_start base mi_rows) 5 0
    (refuse_first (bad_level levels) 64 6
    (refuse (too_short m cells n) 7 0
    (refuse_first (bad_at m) n 8
    (accepted (filled (word_at m levels (eqb sub_x 1) (eqb sub_y 1)) 0 n cells)))))))))
