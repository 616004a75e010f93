-- Document 01's runs: along an edge, adjacent cells that filter with equal size and level join into runs of at most 16 positions, built
-- from the lowest position, each run as long as that allows.
-- Assumes nothing.
use Rattle.std.specs.Prelude.{Bool, cond, ◌&&◌, List, [], ◌∷◌, ◌++◌, ℕ, ◌+◌, eqb, leb, ltb}
use Rattle.decisions.specs.Decision.{Decision, decision}
use Rattle.geometry.specs.declared.Pass.{Pass}
use Rattle.geometry.specs.declared.Superblock.{Superblock}
use Rattle.order.specs.Grid.{select, strip, grid}
use Rattle.pass_edges.specs.PassEdges.{cell_start, cell_len, edge_count}
use Rattle.decided.specs.Decided.{Position, position}
use Rattle.decided.specs.declared.EdgeRun.{EdgeRun}

-- the level that a decision filters with: 0 where nothing is decided
abbrev pub level_of : Decision → ℕ
level_of d = cond d.decided d.level 0

-- the positions of cell c along an edge, as a run by themselves
unfoldable pub cell_run : Superblock → Pass → (chroma : Bool) (cells : List ℕ) (edge c : ℕ) → EdgeRun
cell_run s pass chroma cells edge c =
    let d = decision s pass chroma cells edge (cell_start s pass c) in
    record { edge = edge; first = cell_start s pass c; count = cell_len s pass; size = d.size; level = level_of d }

-- b goes on where a ends, with equal size and level, and together they have at most 16 positions
unfoldable pub joins : EdgeRun → EdgeRun → Bool
joins a b =
    eqb a.edge b.edge && eqb (a.first + a.count) b.first && eqb a.size b.size && eqb a.level b.level
    && leb (a.count + b.count) 16

abbrev pub longer : EdgeRun → (count : ℕ) → EdgeRun
longer a count = record { edge = a.edge; first = a.first; count = a.count + count; size = a.size; level = a.level }

-- a run, and those that follow it, joined from the front
unfoldable pub joined_from : EdgeRun → List EdgeRun → List EdgeRun
joined_from a [] = a ∷ []
joined_from a (b ∷ l) = cond (joins a b) (joined_from (longer a b.count) l) (a ∷ joined_from b l)

abbrev pub joined : List EdgeRun → List EdgeRun
joined [] = []
joined (a ∷ l) = joined_from a l

-- level 0 filters nothing
abbrev pub run_filters : EdgeRun → Bool
run_filters a = ltb 0 a.level

-- THE RUNS of a pass, edge by edge: all cells joined, and those kept that filter
unfoldable pub runs : Superblock → Pass → (chroma : Bool) (cells : List ℕ) → List EdgeRun
runs s pass chroma cells = select run_filters (joined (grid (cell_run s pass chroma cells) (edge_count s pass) 8))

-- the positions of a run, and of runs one behind the other
abbrev pub positions_of : EdgeRun → List Position
positions_of a = strip position a.edge a.first a.count

abbrev pub all_positions : List EdgeRun → List Position
all_positions [] = []
all_positions (a ∷ l) = positions_of a ++ all_positions l
