-- Edge facts that are accepted are the standard's steps at their position, for the mode info of the cell that the position reads
-- (`edge_standard`).
-- Assumes nothing.
use Rattle.std.specs.Prelude.{◌≡◌, ℕ, ◌≤◌, ◌<◌, eqb, ltb}
use Rattle.std.proofs.Common.{sym, subst, arith, ltb-false}
use Rattle.base.specs.Outcome.{accepted}
use Rattle.base.specs.OutcomeLaws.{passed, result_is}
use Rattle.blocks.specs.BlocksStandard.{wide_standard, high_standard, sb_size_standard, is_intra_standard}
use Rattle.blocks.specs.ModeInfo.{bad_block}
use Rattle.blocks.specs.ModeInfoLaws.{block as block_of, sb_size_small}
use Rattle.edge_steps.specs.SuperblockFilter.{is_tx_edge, on_screen}
use Rattle.edge_steps.specs.StepsStandard.{loop_col_standard, loop_row_standard, block_edge_standard, tx_edge_standard, edge_32_standard, on_screen_standard, apply_standard, filter_size_standard}
use Rattle.geometry.specs.Frame.{bad_subsampling, bad_frame_size, bad_start}
use Rattle.geometry.specs.FrameLaws.{started}
use Rattle.geometry.specs.FrameStandard.{superblock_at, pass_number, Subsampled}
use Rattle.geometry.specs.declared.Pass.{Pass}
use Rattle.pass_edges.specs.PassEdges.{pass_of}
use Rattle.pass_edges.specs.PassEdgesStandard.{pass_number_lem, sub_standard, sub_small}
use Rattle.positions.specs.Positions.{luma_x, luma_y}
use Rattle.positions.specs.PositionsStandard.{x_standard, y_standard}
use Rattle.section_8_8.specs.LoopFilterProcess as Std
use Rattle.edges.specs.Edge.{block_edge, edge_facts, off_grid, superblock_filter_edge}
use Rattle.edges.specs.declared.SuperblockFilterMi.{SuperblockFilterMi}
use Rattle.edges.specs.declared.SuperblockFilterEdge.{SuperblockFilterEdge}

module _ (f : Std.Frame) (plane pass row col edge i : ℕ) where
  -- what the caller hands over of the cell: steps 4 to 6 and 8, and the reference of step 9
  pub record Handed (mi : SuperblockFilterMi) : Type 0 where
    pub mi_size_lem : mi.mi_size ≡ Std.mi_size f plane pass row col edge i
    pub tx_sz_lem : mi.tx_sz ≡ Std.tx_sz f plane pass row col edge i
    pub skip : eqb mi.skip 1 ≡ f.skip (Std.loop_row f plane pass row col edge i) (Std.loop_col f plane pass row col edge i)
    pub ref_frame_lem : mi.ref_frame ≡ f.ref_frame (Std.loop_row f plane pass row col edge i) (Std.loop_col f plane pass row col edge i)

  -- steps 1 to 3 and 10 to 15
  pub record Standard (e : SuperblockFilterEdge) : Type 0 where
    pub x : e.x.0 ≡ Std.x f plane pass row col edge i
    pub y : e.y.0 ≡ Std.y f plane pass row col edge i
    pub loop_col_lem : e.loop_col ≡ Std.loop_col f plane pass row col edge i
    pub loop_row_lem : e.loop_row ≡ Std.loop_row f plane pass row col edge i
    pub is_block_edge_lem : e.is_block_edge ≡ Std.is_block_edge f plane pass row col edge i
    pub is_tx_edge_lem : e.is_tx_edge ≡ Std.is_tx_edge f plane pass row col edge i
    pub is_32_edge : e.is_32_edge ≡ Std.is32_edge f plane pass row col edge i
    pub on_screen_lem : e.on_screen ≡ Std.on_screen f plane pass row col edge i
    pub apply_filter_lem : e.apply_filter ≡ Std.apply_filter f plane pass row col edge i
    pub size : e.size ≡ Std.filter_size f plane pass row col edge i

module _ (f : Std.Frame) (small : Subsampled f) (plane row col edge i : ℕ) (pass : Pass) (mi : SuperblockFilterMi) (h : Handed f plane (pass_number pass) row col edge i mi) (fits : mi.mi_size ≤ 12) where
  at_x : luma_x (superblock_at f plane row col) pass edge i ≡ Std.x f plane (pass_number pass) row col edge i
  at_x = x_standard f small plane row col edge i pass

  at_y : luma_y (superblock_at f plane row col) pass edge i ≡ Std.y f plane (pass_number pass) row col edge i
  at_y = y_standard f small plane row col edge i pass

  -- step 7 keeps to the 13 sizes
  sb_size_fits : Std.sb_size (Std.sub f plane (pass_number pass)) (Std.mi_size f plane (pass_number pass) row col edge i) ≤ 12
  sb_size_fits =
      rw (h.mi_size_lem, sb_size_standard _ _ (sub_small f small plane pass)) at (sb_size_small (eqb (Std.sub f plane (pass_number pass)) 1) _ fits)

  block : let s = superblock_at f plane row col in
      block_edge s pass (luma_x s pass edge i) (luma_y s pass edge i) mi.mi_size ≡ Std.is_block_edge f plane (pass_number pass) row col edge i
  block =
      rw (at_x, at_y, sub_standard f plane row col pass, h.mi_size_lem, sb_size_standard _ _ (sub_small f small plane pass), wide_standard _ sb_size_fits, high_standard _ sb_size_fits)
      (block_edge_standard f small plane row col edge i pass)

  transform : let s = superblock_at f plane row col in
      is_tx_edge s pass edge (luma_x s pass edge i) mi.tx_sz ≡ Std.is_tx_edge f plane (pass_number pass) row col edge i
  transform = rw (at_x, h.tx_sz_lem) (tx_edge_standard f small plane row col edge i pass)

  screen : let s = superblock_at f plane row col in
      on_screen s pass (luma_x s pass edge i) (luma_y s pass edge i) ≡ Std.on_screen f plane (pass_number pass) row col edge i
  screen = rw (at_x, at_y) (on_screen_standard f small plane row col edge i pass)

  facts_standard : 0 < f.mi_cols → 0 < f.mi_rows → Standard f plane (pass_number pass) row col edge i (edge_facts (superblock_at f plane row col) pass edge i mi)
  unfolding edge_facts
  facts_standard p q =
      record {
        x = at_x;
        y = at_y;
        loop_col_lem = rw at_x (loop_col_standard f small plane row col edge i pass);
        loop_row_lem = rw at_y (loop_row_standard f small plane row col edge i pass);
        is_block_edge_lem = block;
        is_tx_edge_lem = transform;
        is_32_edge = edge_32_standard f small plane row col edge i pass;
        on_screen_lem = screen;
        apply_filter_lem = rw (block, transform, screen, h.skip, h.ref_frame_lem, is_intra_standard) (apply_standard f small plane row col edge i pass);
        size = rw (at_x, at_y, h.tx_sz_lem, edge_32_standard f small plane row col edge i pass) (filter_size_standard f small plane row col edge i pass p q);
      }

pub edge_standard : (f : Std.Frame) → Subsampled f → (plane pass row col edge i : ℕ) (mi : SuperblockFilterMi) (e : SuperblockFilterEdge)
    → superblock_filter_edge pass row col edge i (Std.sub_x f plane) (Std.sub_y f plane) f.mi_cols f.mi_rows mi ≡ accepted e
    → Handed f plane pass row col edge i mi → Standard f plane pass row col edge i e
unfolding superblock_filter_edge
edge_standard f small plane pass row col edge i mi e ok h =
    let t3 = passed (bad_subsampling (Std.sub_x f plane) (Std.sub_y f plane)) 3 0 _ ok in
    let t4 = passed (bad_frame_size f.mi_cols f.mi_rows) 4 0 _ t3.1 in
    let t5 = passed (bad_start row f.mi_rows) 5 0 _ t4.1 in
    let t8 = passed (bad_block mi.mi_size mi.tx_sz mi.skip) 8 0 _ t5.1 in
    let t9 = passed (ltb 1 pass) 9 0 _ t8.1 in
    let t10 = passed (bad_start col f.mi_cols) 10 0 _ t9.1 in
    let t16 = passed (off_grid (superblock_at f plane row col) (pass_of pass) edge i) 16 0 _ t10.1 in
    let rows = (started row f.mi_rows t5.0).below in
    let cols = (started col f.mi_cols t10.0).below in
    let number = pass_number_lem pass (ltb-false 1 pass t9.0) in
    let handed = subst (λ (n : ℕ). Handed f plane n row col edge i mi) (sym number) h in
    let facts = facts_standard f small plane row col edge i (pass_of pass) mi handed (block_of _ _ _ t8.0).size (omega arith) (omega arith) in
    rw (← result_is t16.1) (subst (λ (n : ℕ). Standard f plane n row col edge i (edge_facts (superblock_at f plane row col) (pass_of pass) edge i mi)) number facts)
