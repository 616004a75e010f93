-- Document 01's edge facts: 8.8.2 steps 1 to 15 at one position, with refusals.
-- Assumes nothing.
use Rattle.std.specs.Prelude.{Bool, ◌||◌, ℕ, eqb, ltb, leb}
use Rattle.base.specs.Outcome.{Outcome, accepted, refuse}
use Rattle.blocks.specs.BlockSizes.{num8x8_wide, num8x8_high}
use Rattle.blocks.specs.ModeInfo.{bad_block, sb_size, is_intra}
use Rattle.geometry.specs.Frame.{bad_subsampling, bad_frame_size, bad_start}
use Rattle.geometry.specs.declared.Pass.{Pass}
use Rattle.geometry.specs.declared.Superblock.{Superblock}
use Rattle.edge_steps.specs.SuperblockFilter.{loop_cell, is_block_edge, is_tx_edge, is32_edge, on_screen, apply_filter}
use Rattle.positions.specs.Positions.{luma_x, luma_y}
use Rattle.pass_edges.specs.PassEdges.{sub, edge_count, edge_len, pass_of}
use Rattle.edge_steps.specs.FilterSize.{filter_size}
use Rattle.edges.specs.declared.SuperblockFilterMi.{SuperblockFilterMi}
use Rattle.edges.specs.declared.SuperblockFilterEdge.{SuperblockFilterEdge}

-- steps 7 and 10, for a block of size miSize
abbrev pub block_edge : Superblock → Pass → (x y mi_size : ℕ) → Bool
block_edge s pass x y mi_size =
    is_block_edge pass x y (num8x8_wide (sb_size (sub s pass) mi_size)) (num8x8_high (sb_size (sub s pass) mi_size))

-- steps 1 to 15, in their order; steps 4, 5, 6 and 8 are what the caller hands over of the cell
unfoldable pub edge_facts : Superblock → Pass → (edge i : ℕ) → SuperblockFilterMi → SuperblockFilterEdge
edge_facts s pass edge i mi =
    let x = luma_x s pass edge i in
    let y = luma_y s pass edge i in
    let block = block_edge s pass x y mi.mi_size in
    let transform = is_tx_edge s pass edge x mi.tx_sz in
    let screen = on_screen s pass x y in
    record {
      x = record { 0 = x };
      y = record { 0 = y };
      loop_col = loop_cell s.subx x;
      loop_row = loop_cell s.suby y;
      is_block_edge = block;
      is_tx_edge = transform;
      is_32_edge = is32_edge edge;
      on_screen = screen;
      apply_filter = apply_filter screen block transform (is_intra mi.ref_frame) (eqb mi.skip 1);
      size = filter_size s pass mi.tx_sz (is32_edge edge) x y;
    }

-- 16
unfoldable pub off_grid : Superblock → Pass → (edge i : ℕ) → Bool
off_grid s pass edge i = leb (edge_count s pass) edge || leb (edge_len s pass) i

-- subsampling flags as numbers
abbrev pub superblock_of : (sub_x sub_y mi_cols mi_rows row col : ℕ) → Superblock
superblock_of sub_x sub_y mi_cols mi_rows row col =
    record { subx = eqb sub_x 1; suby = eqb sub_y 1; cols = mi_cols; rows = mi_rows; row = row; col = col }

unfoldable pub superblock_filter_edge : (pass row col edge i sub_x sub_y mi_cols mi_rows : ℕ) → SuperblockFilterMi → Outcome SuperblockFilterEdge
superblock_filter_edge pass row col edge i sub_x sub_y mi_cols mi_rows mi =
    let s = superblock_of sub_x sub_y mi_cols mi_rows row col in
    refuse (bad_subsampling sub_x sub_y) 3 0
    (refuse (bad_frame_size mi_cols mi_rows) 4 0
    (refuse (bad_start row mi_rows) 5 0
    (refuse (bad_block mi.mi_size mi.tx_sz mi.skip) 8 0
    (refuse (ltb 1 pass) 9 0
    (refuse (bad_start col mi_cols) 10 0
    (refuse (off_grid s (pass_of pass) edge i) 16 0
    (accepted (edge_facts s (pass_of pass) edge i mi))))))))
