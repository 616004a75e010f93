-- What is decided of a position by the words of the superblock row's cells: 8.8.2 up to step 16, with a cell's fields for its mode info.
-- Assumes nothing.
use Rattle.std.specs.Prelude.{Bool, false, cond, not, ◌&&◌, List, ℕ, ◌+◌, ◌-◌, ◌*◌, ◌/◌, ◌%◌, ◌^◌, ltb, get_or}
use Rattle.cells.specs.Cell.{cell_of, width_log2, height_log2, tx_of}
use Rattle.cells.specs.declared.LfCell.{LfCell}
use Rattle.geometry.specs.Coordinates.{shr}
use Rattle.geometry.specs.declared.Pass.{Pass}
use Rattle.geometry.specs.declared.Superblock.{Superblock}
use Rattle.edge_steps.specs.FilterSize.{filter_size}
use Rattle.edge_steps.specs.SuperblockFilter.{loop_cell, is_block_edge, is_tx_edge, is32_edge, on_screen, apply_filter}
use Rattle.positions.specs.Positions.{luma_x, luma_y}
use Rattle.pass_edges.specs.PassEdges.{sub, edge_len}

-- whether a position is filtered, with which size and level, and whether its cell has a level at all
pub record Decision : Type 0 where
  pub decided : Bool
  pub present : Bool
  pub size : ℕ
  pub level : ℕ

-- the place of the cell at (loopRow, loopCol) among the cells of the superblock row
unfoldable pub cell_index : Superblock → Pass → (edge i : ℕ) → ℕ
cell_index s pass edge i = (loop_cell s.suby (luma_y s pass edge i) - s.row) * s.cols + loop_cell s.subx (luma_x s pass edge i)

-- steps 10 to 16; the fields of a cell are for every subsampling, and hold skip and isIntra joined as step 14 joins them
unfoldable pub decision_by : Superblock → Pass → (chroma : Bool) (edge i : ℕ) → LfCell → Decision
decision_by s pass chroma edge i c =
    let x = luma_x s pass edge i in
    let y = luma_y s pass edge i in
    let block = is_block_edge pass x y (2 ^ width_log2 c (sub s pass)) (2 ^ height_log2 c (sub s pass)) in
    let transform = is_tx_edge s pass edge x (tx_of c chroma) in
    record {
      decided = apply_filter (on_screen s pass x y) block transform false c.skipped;
      present = c.present;
      size = filter_size s pass (tx_of c chroma) (is32_edge edge) x y;
      level = c.level;
    }

-- off the screen there is no cell, and nothing is decided
unfoldable pub decision : Superblock → Pass → (chroma : Bool) (cells : List ℕ) (edge i : ℕ) → Decision
decision s pass chroma cells edge i =
    cond (on_screen s pass (luma_x s pass edge i) (luma_y s pass edge i))
    (decision_by s pass chroma edge i (cell_of (get_or cells (cell_index s pass edge i) 0)))
    (record { decided = false; present = false; size = 0; level = 0 })

-- 14: at place edge * 64 + i a decided position reads a cell without level
abbrev pub without_level : Decision → Bool
without_level d = d.decided && not d.present

unfoldable pub levelless : Superblock → Pass → (chroma : Bool) (cells : List ℕ) (place : ℕ) → Bool
levelless s pass chroma cells place =
    ltb (place % 64) (edge_len s pass) && without_level (decision s pass chroma cells (place / 64) (place % 64))

-- the place of the first position of cell k, 8 cells to an edge; sub: the subsampling along the edges
abbrev pub cell_place : (sub : Bool) (k : ℕ) → ℕ
cell_place sub k = 64 * (k / 8) + shr (8 * (k % 8)) sub
