-- The pass by chunks: along each edge 16 positions at a time, each by the key of its cell.
-- Assumes nothing.
use Rattle.std.specs.Prelude.{List, ℕ, zero, suc, ◌+◌, ◌*◌, ◌/◌, ◌%◌, ltb}
use Rattle.keys.specs.Keyed.{key_for}
use Rattle.geometry.specs.declared.Pass.{Pass}
use Rattle.geometry.specs.declared.Superblock.{Superblock}
use Rattle.lanes.specs.KeyLine.{key_line}
use Rattle.pass_edges.specs.PassEdges.{cell_len, edge_len}
use Rattle.positions.specs.Positions.{plane_x, plane_y}
use Rattle.window.specs.Stencil.{Stencil, in_turn}
use Rattle.window.specs.Window.{stencil, along_x, along_y}
use Rattle.window.specs.declared.WindowShape.{WindowShape}

-- the position whose q0 is at (x, y), by a key, and positions from there on along an edge, each by a key of its own
abbrev pub key_stencil : WindowShape → Pass → (x y sharpness depth key : ℕ) → Stencil
key_stencil g pass x y sharpness depth key = stencil g pass x y (ltb 0 (key % 64)) (key_line sharpness depth key)

abbrev pub keyed_run : WindowShape → Pass → (x y sharpness depth : ℕ) (keys : ℕ → ℕ) (k : ℕ) → Stencil
keyed_run g pass x y sharpness depth keys k = key_stencil g pass (along_x pass x k) (along_y pass y k) sharpness depth (keys k)

-- the key of position i of an edge is that of its cell
unfoldable pub key_along : Superblock → Pass → (outer inner : List ℕ) (edge i : ℕ) → ℕ
key_along s pass outer inner edge i = key_for outer inner edge (i / cell_len s pass)

module _ (g : WindowShape) (s : Superblock) (pass : Pass) (sharpness depth : ℕ) (outer inner : List ℕ) where
  abbrev pub keyed : (edge i : ℕ) → Stencil
  keyed edge i = key_stencil g pass (plane_x s pass edge i) (plane_y s pass edge i) sharpness depth (key_along s pass outer inner edge i)

  -- `count` positions of an edge from `first` on
  unfoldable pub chunk : (edge first count : ℕ) → List ℕ → List ℕ
  chunk edge first count samples = in_turn (λ k. keyed edge (first + k)) count samples

  -- the first m chunks of 16 of an edge
  unfoldable pub edge_chunks : (edge m : ℕ) → List ℕ → List ℕ
  edge_chunks edge zero samples = samples
  edge_chunks edge (suc m) samples = chunk edge (16 * m) 16 (edge_chunks edge m samples)

  -- all chunks of the first n edges
  unfoldable pub pass_chunks : (n : ℕ) → List ℕ → List ℕ
  pass_chunks zero samples = samples
  pass_chunks (suc n) samples = edge_chunks n (edge_len s pass / 16) (pass_chunks n samples)
