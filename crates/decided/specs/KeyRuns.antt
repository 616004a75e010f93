-- Runs by keys: the same runs, made of the numbers that crate keys gives for the cells along the edges.
-- Assumes nothing.
use Rattle.std.specs.Prelude.{List, ℕ, ◌/◌, ◌%◌}
use Rattle.geometry.specs.declared.Pass.{Pass}
use Rattle.geometry.specs.declared.Superblock.{Superblock}
use Rattle.keys.specs.Keyed.{key_for}
use Rattle.order.specs.Grid.{select, grid}
use Rattle.pass_edges.specs.PassEdges.{cell_start, cell_len, edge_count}
use Rattle.decided.specs.Runs.{joined, run_filters}
use Rattle.decided.specs.declared.EdgeRun.{EdgeRun}

-- the positions of cell c along an edge, as a run by themselves: a key's size and level
unfoldable pub key_run : Superblock → Pass → (key edge c : ℕ) → EdgeRun
key_run s pass key edge c =
    record { edge = edge; first = cell_start s pass c; count = cell_len s pass; size = key / 64; level = key % 64 }

abbrev pub key_cell : Superblock → Pass → (outer inner : List ℕ) (edge c : ℕ) → EdgeRun
key_cell s pass outer inner edge c = key_run s pass (key_for outer inner edge c) edge c

-- the runs of a pass by its keys
unfoldable pub key_runs : Superblock → Pass → (outer inner : List ℕ) → List EdgeRun
key_runs s pass outer inner = select run_filters (joined (grid (key_cell s pass outer inner) (edge_count s pass) 8))
