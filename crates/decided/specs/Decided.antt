-- The decided positions of a pass: 8.8.2's steps 1 to 14 over the grid of a superblock plane, with packed cells for mode info.
-- Assumes nothing.
use Rattle.std.specs.Prelude.{Bool, ◌&&◌, List, ℕ, eqb, ltb}
use Rattle.decisions.specs.Decision.{Decision, decision}
use Rattle.geometry.specs.declared.Pass.{Pass}
use Rattle.geometry.specs.declared.Superblock.{Superblock}
use Rattle.order.specs.Grid.{select, grid}
use Rattle.pass_edges.specs.PassEdges.{edge_count, edge_len}

-- A position of a pass: i along an edge.
pub record Position : Type 0 where
  pub edge : ℕ
  pub i : ℕ

abbrev pub position : (edge i : ℕ) → Position
position edge i = record { edge = edge; i = i }

-- What a pass is given beside its direction and its window: a superblock, with the subsampling that holds in the plane; whether the
-- plane is one of chroma; sharpness and depth; and the words of the superblock row's cells.
pub record Setting : Type 0 where
  pub superblock : Superblock
  pub chroma : Bool
  pub sharpness : ℕ
  pub depth : ℕ
  pub cells : List ℕ

abbrev pub setting : Superblock → (chroma : Bool) (sharpness depth : ℕ) (cells : List ℕ) → Setting
setting s chroma sharpness depth cells = record { superblock = s; chroma = chroma; sharpness = sharpness; depth = depth; cells = cells }

-- steps 1 to 16 at a position
abbrev pub decision_at : Setting → Pass → Position → Decision
decision_at t pass p = decision t.superblock pass t.chroma t.cells p.edge p.i

-- document 01's decided positions, edge and i rising
unfoldable pub is_decided : Setting → Pass → Position → Bool
is_decided t pass p = (decision_at t pass p).decided

unfoldable pub decided : Setting → Pass → List Position
decided t pass = select (is_decided t pass) (grid position (edge_count t.superblock pass) (edge_len t.superblock pass))

-- level 0 filters nothing
abbrev pub filters : Decision → Bool
filters d = ltb 0 d.level

-- plane 0 counts as not subsampled
abbrev pub superblock_of : (sub_x sub_y mi_cols mi_rows row col plane : ℕ) → Superblock
superblock_of sub_x sub_y mi_cols mi_rows row col plane =
    let chroma = ltb 0 plane in
    record { subx = chroma && eqb sub_x 1; suby = chroma && eqb sub_y 1; cols = mi_cols; rows = mi_rows; row = row; col = col }

abbrev pub setting_of : (sharpness depth sub_x sub_y mi_cols mi_rows row col plane : ℕ) (cells : List ℕ) → Setting
setting_of sharpness depth sub_x sub_y mi_cols mi_rows row col plane cells = setting (superblock_of sub_x sub_y mi_cols mi_rows row col plane) (ltb 0 plane) sharpness depth cells
