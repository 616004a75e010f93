-- Laws of the edges of a pass: how large their numbers are, and the cells along an edge.
-- Assumes nothing.
use Rattle.std.specs.Prelude.{◌≡◌, refl, Bool, true, false, ℕ, ◌+◌, ◌*◌, ◌≤◌, ◌<◌}
use Rattle.std.proofs.Common.{arith}
use Rattle.geometry.specs.Coordinates.{shr}
use Rattle.geometry.specs.CoordinatesLaws.{shr_small}
use Rattle.geometry.specs.declared.Pass.{Pass}
use Rattle.geometry.specs.declared.Superblock.{Superblock}
use Rattle.pass_edges.specs.PassEdges.{sub, along_sub, edge_count, edge_len}

pub edge_count_small : (s : Superblock) (pass : Pass) → edge_count s pass ≤ 16
unfolding edge_count
edge_count_small s pass = shr_small 16 (sub s pass)

pub edge_len_small : (s : Superblock) (pass : Pass) → edge_len s pass ≤ 64
unfolding edge_len
edge_len_small s pass = shr_small 64 (along_sub s pass)

-- an edge has 8 cells, and the positions of each are on it
pub edge_len_cells : (s : Superblock) (pass : Pass) → edge_len s pass ≡ shr (8 * 8) (along_sub s pass)
unfolding edge_len
edge_len_cells s pass = refl

pub cell_along : (s : Superblock) (pass : Pass) (c : ℕ) → c < 8 → shr (8 * c) (along_sub s pass) + shr 8 (along_sub s pass) ≤ edge_len s pass
unfolding edge_len
cell_along s pass c h = within (along_sub s pass)
  where
    within : (sub : Bool) → shr (8 * c) sub + shr 8 sub ≤ shr 64 sub
    within true = omega arith
    within false = omega arith

pub cell_first : (s : Superblock) (pass : Pass) (c : ℕ) → c < 8 → shr (8 * c) (along_sub s pass) < edge_len s pass
cell_first s pass c h = omega (arith, cell_along s pass c h, some (along_sub s pass))
  where
    some : (sub : Bool) → 0 < shr 8 sub
    some true = omega arith
    some false = omega arith
