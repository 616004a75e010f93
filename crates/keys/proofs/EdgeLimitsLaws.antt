-- The steps of a decision by the limits of its edge.
-- Assumes nothing.
use Rattle.std.specs.Prelude.{◌≡◌, Bool, cond, not, ◌&&◌, ◌||◌, ℕ, zero, suc, ◌+◌, ◌*◌, ◌%◌, ◌^◌, ◌<◌, ltb}
use Rattle.std.proofs.Common.{arith}
use Rattle.std.proofs.lemmas.Grind.{common_steps}
use Rattle.cells.specs.Cell.{bit, cell_of, width_log2, height_log2, tx_of}
use Rattle.edge_steps.specs.FilterSize.{filter_size}
use Rattle.edge_steps.specs.SuperblockFilter.{multiple, loop_cell, is_block_edge, is_tx_edge, is32_edge, on_screen}
use Rattle.geometry.specs.Coordinates.{shl}
use Rattle.geometry.specs.declared.Pass.{Pass}
use Rattle.geometry.specs.declared.Pass.TheVariants.{Vertical, Horizontal}
use Rattle.geometry.specs.declared.Superblock.{Superblock}
use Rattle.pass_edges.specs.PassEdges.{sub, cell_start}
use Rattle.positions.specs.Positions.{Placed, luma_x, luma_y}
use Rattle.decisions.specs.Decision.{cell_index}
use Rattle.keys.specs.PlainKeys.{turned_of, halvings, limits_of, field, base_of, place_from}

-- a superblock starts at a multiple of 64 samples, and blocks and transforms have edges at the multiples of their extent, a power of 2
block_edge_lem : (start edge log : ℕ) (sub : Bool) → start % 8 ≡ 0 → edge < 16 → log < 4 → multiple (start * 8 + edge * shl 4 sub) (8 * 2 ^ log) ≡ ltb log (halvings edge + bit sub)
block_edge_lem start edge zero sub e h l = grind (arith, common_steps)
block_edge_lem start edge (suc zero) sub e h l = grind (arith, common_steps)
block_edge_lem start edge (suc (suc zero)) sub e h l = grind (arith, common_steps)
block_edge_lem start edge (suc (suc (suc zero))) sub e h l = grind (arith, common_steps)
block_edge_lem start edge (suc (suc (suc (suc log)))) sub e h l = absurd (omega arith)

transform_edge : (edge tx : ℕ) → edge < 16 → tx < 4 → multiple edge (2 ^ tx) ≡ ltb tx (halvings edge + 1)
transform_edge edge zero h l = grind (arith, common_steps)
transform_edge edge (suc zero) h l = grind (arith, common_steps)
transform_edge edge (suc (suc zero)) h l = grind (arith, common_steps)
transform_edge edge (suc (suc (suc zero))) h l = grind (arith, common_steps)
transform_edge edge (suc (suc (suc (suc tx)))) h l = absurd (omega arith)

module _ (s : Superblock) (chroma : Bool) (p : Placed s) where
  pub transform_field : (pass : Pass) (w : ℕ) → tx_of (cell_of w) chroma ≡ field (turned_of s pass chroma).tx w
  unfolding turned_of cell_of
  transform_field pass w = grind (arith, common_steps)

  module _ (edge c : ℕ) where
    pub screen_by : (pass : Pass) → let i = cell_start s pass c in on_screen s pass (luma_x s pass edge i) (luma_y s pass edge i) ≡ ltb c (limits_of (turned_of s pass chroma) edge).shown
    unfolding on_screen luma_x luma_y limits_of turned_of
    screen_by pass = grind (arith, common_steps)

    module _ (few : edge < 16) where
      pub block_by : (pass : Pass) (w : ℕ) → let i = cell_start s pass c in let t = turned_of s pass chroma in
          is_block_edge pass (luma_x s pass edge i) (luma_y s pass edge i) (2 ^ width_log2 (cell_of w) (sub s pass)) (2 ^ height_log2 (cell_of w) (sub s pass)) ≡ ltb (field t.log w) (limits_of t edge).block
      unfolding is_block_edge luma_x luma_y limits_of turned_of cell_of
      block_by Vertical w = let e = block_edge_lem s.col edge (field (cond s.subx 28 30) w) s.subx p.col_eighth few (omega arith) in grind (arith, common_steps)
      block_by Horizontal w = let e = block_edge_lem s.row edge (field (cond s.suby 24 26) w) s.suby p.row_eighth few (omega arith) in grind (arith, common_steps)

      pub transform_by : (pass : Pass) (tx : ℕ) → c < 8 → tx < 4 → let i = cell_start s pass c in let n = limits_of (turned_of s pass chroma) edge in
          is_tx_edge s pass edge (luma_x s pass edge i) tx ≡ (ltb c n.coded && ltb tx n.transform)
      unfolding is_tx_edge luma_x limits_of turned_of
      transform_by pass tx l m = let e = transform_edge edge tx few m in grind (arith, common_steps)

    pub size_by_limits : (pass : Pass) (tx : ℕ) → tx < 4 → let i = cell_start s pass c in let n = limits_of (turned_of s pass chroma) edge in
        filter_size s pass tx (is32_edge edge) (luma_x s pass edge i) (luma_y s pass edge i) ≡ bit (n.wide || ltb 0 tx) + bit (not n.narrow && ltb 1 tx)
    unfolding filter_size is32_edge luma_x luma_y limits_of turned_of
    size_by_limits pass tx h = grind (arith, common_steps)

  pub index_by : (pass : Pass) (e parity c : ℕ) → parity < 2 → let t = turned_of s pass chroma in
      cell_index s pass (2 * e + parity) (cell_start s pass c) ≡ place_from (base_of t e) t.paired t.along c
  unfolding cell_index luma_x luma_y turned_of loop_cell
  index_by pass e parity c l = grind (arith, common_steps)
