-- Steps 2 to 15 of a position are the standard's, each from what the page computes before it.
-- Assumes nothing.
use Rattle.std.specs.Prelude.{◌≡◌, Bool, true, false, cond, not, ◌&&◌, ◌||◌, ℕ, zero, suc, ◌+◌, ◌-◌, ◌^◌, ◌≤◌, ◌<◌, eqb}
use Rattle.std.proofs.Math.Path.{refl}
use Rattle.std.proofs.Common.{ap, ◌∙◌, one-mul, add-one, arith}
use Rattle.std.proofs.Math.Dec.{eqb-suc-suc}
use Rattle.base.specs.Notation.{◌<<◌, ◌>>◌}
use Rattle.section_8_8.specs.LoopFilterProcess as Std
use Rattle.geometry.specs.Coordinates.{shl, shr}
use Rattle.geometry.specs.FrameStandard.{superblock_at, pass_number, Subsampled, sub_x_small, sub_y_small, shl_flag, shr_flag}
use Rattle.geometry.specs.declared.Pass.{Pass}
use Rattle.geometry.specs.declared.Pass.TheVariants.{Vertical, Horizontal}
use Rattle.edge_steps.specs.SuperblockFilter.{loop_cell, is_block_edge, last_column, is_tx_edge, is32_edge, on_screen, apply_filter}
use Rattle.edge_steps.specs.FilterSize.{filter_size}

-- a cell rounded to the grid of a subsampling
cell_flag : (n s : ℕ) → s ≤ 1 → shl (shr n (eqb s 1)) (eqb s 1) ≡ (n >> s) << s
cell_flag n s h = shl_flag (shr n (eqb s 1)) s h ∙ ap (λ m. m << s) (shr_flag n s h)

-- the page leaves a case out where ours denies it
left_out : (t u : Bool) → (not t && u) ≡ cond t false u
left_out true u = refl
left_out false u = refl

or_false : (t : Bool) → t || false ≡ t
or_false true = refl
or_false false = refl

-- the page names the last cell by its number where ours counts the cells
last : (k n : ℕ) → 0 < n → eqb (k + 1) n ≡ eqb k (n - 1)
last k zero h = absurd (omega arith)
last k (suc n) h = let e : suc n - 1 ≡ n = omega arith in rw (add-one k, e) (eqb-suc-suc k n)

module _ (f : Std.Frame) (small : Subsampled f) (plane row col edge i : ℕ) where
  pub loop_col_standard : (pass : Pass) → loop_cell (superblock_at f plane row col).subx (Std.x f plane (pass_number pass) row col edge i) ≡ Std.loop_col f plane (pass_number pass) row col edge i
  unfolding loop_cell Std.loop_col
  loop_col_standard pass = cell_flag _ (Std.sub_x f plane) (sub_x_small f small plane)

  pub loop_row_standard : (pass : Pass) → loop_cell (superblock_at f plane row col).suby (Std.y f plane (pass_number pass) row col edge i) ≡ Std.loop_row f plane (pass_number pass) row col edge i
  unfolding loop_cell Std.loop_row
  loop_row_standard pass = cell_flag _ (Std.sub_y f plane) (sub_y_small f small plane)

  pub block_edge_standard : (pass : Pass) → let n = pass_number pass in let z = Std.sb_size (Std.sub f plane n) (Std.mi_size f plane n row col edge i) in
      is_block_edge pass (Std.x f plane n row col edge i) (Std.y f plane n row col edge i) (Std.num8x8_blocks_wide z) (Std.num8x8_blocks_high z) ≡ Std.is_block_edge f plane n row col edge i
  unfolding is_block_edge Std.is_block_edge
  block_edge_standard Vertical = refl
  block_edge_standard Horizontal = refl

  pub tx_edge_standard : (pass : Pass) → let n = pass_number pass in
      is_tx_edge (superblock_at f plane row col) pass edge (Std.x f plane n row col edge i) (Std.tx_sz f plane n row col edge i) ≡ Std.is_tx_edge f plane n row col edge i
  unfolding is_tx_edge Std.is_tx_edge
  tx_edge_standard Vertical = rw (one-mul (2 ^ Std.tx_sz f plane 0 row col edge i))
  tx_edge_standard Horizontal = rw (one-mul (2 ^ Std.tx_sz f plane 1 row col edge i)) (left_out (last_column (superblock_at f plane row col) Horizontal edge (Std.x f plane 1 row col edge i)) _)

  pub edge_32_standard : (pass : Pass) → is32_edge edge ≡ Std.is32_edge f plane (pass_number pass) row col edge i
  unfolding is32_edge Std.is32_edge
  edge_32_standard pass = refl

  pub on_screen_standard : (pass : Pass) → let n = pass_number pass in
      on_screen (superblock_at f plane row col) pass (Std.x f plane n row col edge i) (Std.y f plane n row col edge i) ≡ Std.on_screen f plane n row col edge i
  unfolding on_screen Std.on_screen
  on_screen_standard Vertical = rw or_false
  on_screen_standard Horizontal = rw or_false

  pub apply_standard : (pass : Pass) → let n = pass_number pass in let r = Std.loop_row f plane n row col edge i in let c = Std.loop_col f plane n row col edge i in
      apply_filter (Std.on_screen f plane n row col edge i) (Std.is_block_edge f plane n row col edge i) (Std.is_tx_edge f plane n row col edge i) (Std.is_intra (f.ref_frame r c)) (f.skip r c) ≡ Std.apply_filter f plane n row col edge i
  unfolding apply_filter Std.apply_filter
  apply_standard pass = refl

  pub filter_size_standard : (pass : Pass) → 0 < f.mi_cols → 0 < f.mi_rows → let n = pass_number pass in
      filter_size (superblock_at f plane row col) pass (Std.tx_sz f plane n row col edge i) (Std.is32_edge f plane n row col edge i) (Std.x f plane n row col edge i) (Std.y f plane n row col edge i) ≡ Std.filter_size f plane n row col edge i
  unfolding filter_size Std.filter_size
  filter_size_standard Vertical p q = rw (last (Std.x f plane 0 row col edge i >> 3) f.mi_cols p, or_false)
  filter_size_standard Horizontal p q = rw (last (Std.y f plane 1 row col edge i >> 3) f.mi_rows q)
