-- What the words of an accepted row decide of a position is what 8.8.2's steps 1 to 16 make of the frame: whether it is filtered
-- (`decided_standard`), with which size and which level (`size_standard`, `level_standard`).
-- Assumes nothing.
use Rattle.std.specs.Prelude.{◌≡◌, Bool, not, ◌||◌, List, ℕ, zero, suc, ◌^◌, ◌≤◌, ◌<◌, eqb, ltb, ℤ, pos, negsuc, nat_abs, get_or}
use Rattle.std.proofs.Math.Path.{refl, sym, ap}
use Rattle.std.proofs.Common.{◌∙◌, subst, lt-ltb, ne_eqb, arith}
use Rattle.std.proofs.Math.Bool.{true, false, cond}
use Rattle.std.proofs.Math.Decide.{dec_lt}
use Rattle.std.proofs.Math.Dec.{T}
use Rattle.base.specs.First.{found-false}
use Rattle.blocks.specs.ModeInfoLaws.{block}
use Rattle.cells.specs.Cell.{cell_of, width_log2, height_log2, tx_of, Fields}
use Rattle.cells.specs.CellLaws.{cell_fields}
use Rattle.cells.specs.declared.LfCell.{LfCell}
use Rattle.decisions.specs.Decision.{Decision, cell_index, decision_by, decision}
use Rattle.edge_steps.specs.ScreenLaws.{seen, cell_below, loop_cell_small, loop_cell_from}
use Rattle.edge_steps.specs.StepsStandard.{loop_col_standard, loop_row_standard, block_edge_standard, tx_edge_standard, edge_32_standard, on_screen_standard, apply_standard, filter_size_standard}
use Rattle.edge_steps.specs.SuperblockFilter.{loop_cell, on_screen, apply_filter}
use Rattle.geometry.specs.Frame.{cells_from}
use Rattle.geometry.specs.FrameStandard.{superblock_at, pass_number, Subsampled}
use Rattle.geometry.specs.declared.Pass.{Pass}
use Rattle.geometry.specs.declared.Superblock.{Superblock}
use Rattle.level_lookup.specs.LevelLookup.{level_at}
use Rattle.pass_edges.specs.PassEdges.{sub, edge_count, edge_len}
use Rattle.pass_edges.specs.PassEdgesStandard.{sub_standard, sub_small}
use Rattle.positions.specs.Positions.{Placed, luma_x, luma_y}
use Rattle.positions.specs.PositionsStandard.{x_standard, y_standard}
use Rattle.row.specs.Row.{ModeInfo, bad_at}
use Rattle.row.specs.RowStandard.{Made, Standard, row_standard}
use Rattle.section_8_8.specs.LoopFilterProcess as Std
use Rattle.standard.specs.FrameLists.{InRow, place_in, Holds, Entries}

-- skip and isIntra stand in a word as step 14 joins them
apply_same : (screen block transform skipped intra skip : Bool) → not skipped ≡ (intra || not skip) → apply_filter screen block transform false skipped ≡ apply_filter screen block transform intra skip
unfolding apply_filter
apply_same screen block transform skipped intra skip e = rw e

-- the transform of the plane
tx_same : (plane tx uvtx : ℕ) → cond (ltb 0 plane) uvtx tx ≡ cond (eqb plane 0) tx uvtx
tx_same zero tx uvtx = refl
tx_same (suc plane) tx uvtx = rw (lt-ltb 0 (suc plane) (omega arith), ne_eqb (suc plane) 0 (λ e. omega arith))

-- a cell with a level has the entry that the page reads
level_same : (levels : List ℕ) (sub_x sub_y mi_size tx_size skip : ℕ) (ref_frame : ℤ) (y_mode segment : ℕ) (c : LfCell) (table : (segment ref mode : ℕ) → ℕ)
    → Standard levels sub_x sub_y mi_size tx_size skip ref_frame y_mode segment c
    → ((ref : ℕ) → ref_frame ≡ pos ref → ref < 4 → segment < 8 → get_or levels (level_at segment ref (Std.mode_type y_mode)) 0 ≡ table segment ref (Std.mode_type y_mode))
    → c.present ≡ true → c.level ≡ table segment (nat_abs ref_frame) (Std.mode_type y_mode)
level_same levels sub_x sub_y mi_size tx_size skip (pos ref) y_mode segment c table std entry e = go (dec_lt ref 4) (dec_lt segment 8)
  where
    go : Dec (ref < 4) → Dec (segment < 8) → c.level ≡ table segment ref (Std.mode_type y_mode)
    go (yes h) (yes k) = (std.lvl ref refl h k).1 ∙ entry ref refl h k
    go (no h) k = absurd (subst T (sym e ∙ (std.no_reference ref refl (omega arith)).0) tt)
    go (yes h) (no k) = absurd (subst T (sym e ∙ (std.no_segment (omega arith)).0) tt)
level_same levels sub_x sub_y mi_size tx_size skip (negsuc n) y_mode segment c table std entry e = absurd (subst T (sym e ∙ (std.negative n refl).0) tt)

module _ (f : Std.Frame) (small : Subsampled f) (plane row col : ℕ) (pass : Pass) (edge i : ℕ) where
  abbrev n : ℕ
  n = pass_number pass

  abbrev s : Superblock
  s = superblock_at f plane row col

  abbrev x : ℕ
  x = Std.x f plane n row col edge i

  abbrev y : ℕ
  y = Std.y f plane n row col edge i

  abbrev r : ℕ
  r = Std.loop_row f plane n row col edge i

  abbrev k : ℕ
  k = Std.loop_col f plane n row col edge i

  -- the cell that the position reads
  index_standard : cell_index s pass edge i ≡ place_in f row r k
  unfolding cell_index
  index_standard =
      rw (x_standard f small plane row col edge i pass, y_standard f small plane row col edge i pass, loop_col_standard f small plane row col edge i pass, loop_row_standard f small plane row col edge i pass)

  -- steps 2 and 3 lead to a cell of the superblock row
  in_row : Placed s → edge < edge_count s pass → i < edge_len s pass → on_screen s pass (luma_x s pass edge i) (luma_y s pass edge i) ≡ true → InRow f row r k × (cell_index s pass edge i < cells_from row f.mi_cols f.mi_rows)
  unfolding cell_index
  in_row at on along screen =
      let see = seen s pass edge i on along screen in
      let from = see.from in
      let up = loop_cell_from s.suby (luma_y s pass edge i) row at.row_eighth from in
      let down = loop_cell_small s.suby (luma_y s pass edge i) in
      let across = loop_cell_small s.subx (luma_x s pass edge i) in
      let rows : loop_cell s.suby (luma_y s pass edge i) ≡ r = rw (y_standard f small plane row col edge i pass) (loop_row_standard f small plane row col edge i pass) in
      let cols : loop_cell s.subx (luma_x s pass edge i) ≡ k = rw (x_standard f small plane row col edge i pass) (loop_col_standard f small plane row col edge i pass) in
      (record { from = omega arith; to = omega arith; rows = omega arith; cols = omega arith }, cell_below s _ _ at see)

module _ (f : Std.Frame) (small : Subsampled f) (m : ModeInfo) (levels cells words : List ℕ) (row : ℕ)
    (made : Made m levels (eqb f.subsampling_x 1) (eqb f.subsampling_y 1) (cells_from row f.mi_cols f.mi_rows) cells words) (holds : Holds f row m)
    (plane col : ℕ) (at : Placed (superblock_at f plane row col)) (pass : Pass) (edge i : ℕ)
    (on : edge < edge_count (superblock_at f plane row col) pass) (along : i < edge_len (superblock_at f plane row col) pass) where
  abbrev here : Superblock
  here = superblock_at f plane row col

  abbrev number : ℕ
  number = pass_number pass

  abbrev loop_row : ℕ
  loop_row = Std.loop_row f plane number row col edge i

  abbrev loop_col : ℕ
  loop_col = Std.loop_col f plane number row col edge i

  abbrev cell : LfCell
  cell = cell_of (get_or words (place_in f row loop_row loop_col) 0)

  abbrev decided_here : Decision
  decided_here = decision here pass (ltb 0 plane) words edge i

  module _ (screen : on_screen here pass (luma_x here pass edge i) (luma_y here pass edge i) ≡ true) where
    of_row : InRow f row loop_row loop_col
    of_row = (in_row f small plane row col pass edge i at on along screen).0

    -- the fields of the word that is read are the standard's values of the frame's cell
    cell_standard : Standard levels f.subsampling_x f.subsampling_y (f.mi_size loop_row loop_col) (f.tx_size loop_row loop_col) (get_or m.skips (place_in f row loop_row loop_col) 0) (f.ref_frame loop_row loop_col) (f.y_mode loop_row loop_col) (f.segment_id loop_row loop_col) cell
    cell_standard =
        let below = rw (index_standard f small plane row col pass edge i) at (in_row f small plane row col pass edge i at on along screen).1 in
        rw (holds.sizes loop_row loop_col of_row, holds.txs loop_row loop_col of_row, holds.refs loop_row loop_col of_row, holds.modes loop_row loop_col of_row, holds.segments loop_row loop_col of_row)
        (row_standard m levels f.subsampling_x f.subsampling_y _ cells words made small.x small.y (place_in f row loop_row loop_col) below)

    by_cell : decided_here ≡ decision_by here pass (ltb 0 plane) edge i cell
    unfolding decision
    by_cell = rw (screen, index_standard f small plane row col pass edge i)

    tx_is : tx_of cell (ltb 0 plane) ≡ Std.tx_sz f plane number row col edge i
    unfolding Std.tx_sz Std.mi_size
    tx_is =
        let luma : cell.tx ≡ f.tx_size loop_row loop_col = cell_standard.luma_tx in
        let chroma : cell.uvtx ≡ Std.uv_tx_size (f.tx_size loop_row loop_col) (f.mi_size loop_row loop_col) f.subsampling_x f.subsampling_y = cell_standard.chroma_tx in
        (λ t. cond (ltb 0 plane) (chroma t) (luma t)) ∙ tx_same plane _ _

    wide_is : 2 ^ width_log2 cell (sub here pass) ≡ Std.num8x8_blocks_wide (Std.sb_size (Std.sub f plane number) (Std.mi_size f plane number row col edge i))
    unfolding Std.mi_size
    wide_is = rw (sub_standard f plane row col pass) (cell_standard.wide (Std.sub f plane number) (sub_small f small plane pass))

    high_is : 2 ^ height_log2 cell (sub here pass) ≡ Std.num8x8_blocks_high (Std.sb_size (Std.sub f plane number) (Std.mi_size f plane number row col edge i))
    unfolding Std.mi_size
    high_is = rw (sub_standard f plane row col pass) (cell_standard.high (Std.sub f plane number) (sub_small f small plane pass))

    coded_is : not cell.skipped ≡ (Std.is_intra (f.ref_frame loop_row loop_col) || not (f.skip loop_row loop_col))
    coded_is = rw (holds.skips loop_row loop_col of_row) cell_standard.filtered

    screen_decided : decided_here.decided ≡ Std.apply_filter f plane number row col edge i
    unfolding decision_by
    screen_decided =
        ap (λ (d : Decision). d.decided) by_cell
        ∙ (rw (
          x_standard f small plane row col edge i pass,
          y_standard f small plane row col edge i pass,
          wide_is,
          high_is,
          tx_is,
          on_screen_standard f small plane row col edge i pass,
          block_edge_standard f small plane row col edge i pass,
          tx_edge_standard f small plane row col edge i pass,
        )
        (apply_same _ _ _ cell.skipped (Std.is_intra (f.ref_frame loop_row loop_col)) (f.skip loop_row loop_col) coded_is))
        ∙ apply_standard f small plane row col edge i pass

    screen_size : decided_here.size ≡ Std.filter_size f plane number row col edge i
    unfolding decision_by
    screen_size =
        let cols = at.col in
        let rows = at.row in
        ap (λ (d : Decision). d.size) by_cell
        ∙ (rw (tx_is, x_standard f small plane row col edge i pass, y_standard f small plane row col edge i pass, edge_32_standard f small plane row col edge i pass)
        (filter_size_standard f small plane row col edge i pass (omega arith) (omega arith)))

    screen_level : (table : (segment ref mode : ℕ) → ℕ) → Entries f row levels table → decided_here.present ≡ true → decided_here.level ≡ Std.lvl f plane number row col edge i table
    unfolding decision_by Std.lvl
    screen_level table entries present =
        ap (λ (d : Decision). d.level) by_cell
        ∙ level_same _ _ _ _ _ _ _ _ _ cell table cell_standard (λ ref. entries.entry loop_row loop_col ref of_row) (sym (ap (λ (d : Decision). d.present) by_cell) ∙ present)

  -- step 14, on screen and off it
  pub decided_standard : decided_here.decided ≡ Std.apply_filter f plane number row col edge i
  unfolding decision Std.apply_filter
  decided_standard = cases (on_screen here pass (luma_x here pass edge i) (luma_y here pass edge i)) refl
    where
      off : on_screen here pass (luma_x here pass edge i) (luma_y here pass edge i) ≡ false → Std.on_screen f plane number row col edge i ≡ false
      off e =
          sym (on_screen_standard f small plane row col edge i pass)
          ∙ (rw (x_standard f small plane row col edge i pass, y_standard f small plane row col edge i pass) at e)

      none : on_screen here pass (luma_x here pass edge i) (luma_y here pass edge i) ≡ false → decided_here.decided ≡ Std.apply_filter f plane number row col edge i
      none e = rw (e, off e)

      cases : (b : Bool) → on_screen here pass (luma_x here pass edge i) (luma_y here pass edge i) ≡ b → decided_here.decided ≡ Std.apply_filter f plane number row col edge i
      cases true e = screen_decided e
      cases false e = none e

  -- what is decided is on screen
  decided_seen : decided_here.decided ≡ true → on_screen here pass (luma_x here pass edge i) (luma_y here pass edge i) ≡ true
  unfolding decision
  decided_seen e = cases (on_screen here pass (luma_x here pass edge i) (luma_y here pass edge i)) refl
    where
      cases : (b : Bool) → on_screen here pass (luma_x here pass edge i) (luma_y here pass edge i) ≡ b → on_screen here pass (luma_x here pass edge i) (luma_y here pass edge i) ≡ true
      cases true d = d
      cases false d = absurd (subst T (sym (rw d at e)) tt)

  module _ (decides : decided_here.decided ≡ true) where
    -- step 15
    pub size_standard : decided_here.size ≡ Std.filter_size f plane number row col edge i
    size_standard = screen_size (decided_seen decides)

    -- step 16, for a table whose entries the level table has
    pub level_standard : (table : (segment ref mode : ℕ) → ℕ) → Entries f row levels table → decided_here.present ≡ true → decided_here.level ≡ Std.lvl f plane number row col edge i table
    level_standard = screen_level (decided_seen decides)

    -- the block and the transform that the page reads are of those that exist
    pub block_known : (Std.mi_size f plane number row col edge i ≤ 12) × (Std.tx_sz f plane number row col edge i ≤ 3)
    unfolding Std.mi_size
    block_known =
        let screen = decided_seen decides in
        let below = rw (index_standard f small plane row col pass edge i) at (in_row f small plane row col pass edge i at on along screen).1 in
        let b = block _ _ _ (found-false (bad_at m) _ made.blocks_fit (place_in f row loop_row loop_col) below) in
        let c = cell_fields (get_or words (place_in f row loop_row loop_col) 0) in
        (rw (holds.sizes loop_row loop_col (of_row screen)) b.size, rw (← tx_is screen) (tx_small (ltb 0 plane) c))
      where
        tx_small : (chroma : Bool) → Fields cell → tx_of cell chroma ≤ 3
        tx_small true c = omega arith
        tx_small false c = omega arith
