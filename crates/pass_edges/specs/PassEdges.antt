-- The edges of a pass over a superblock: how many there are, and how many positions each has. 8.8.2, its head.
-- A superblock has the subsampling that holds in its plane.
-- Assumes nothing.
use Rattle.std.specs.Prelude.{Bool, cond, ℕ, ◌*◌, eqb}
use Rattle.geometry.specs.Coordinates.{shr}
use Rattle.geometry.specs.declared.Pass.{Pass}
use Rattle.geometry.specs.declared.Pass.TheVariants.{Vertical, Horizontal}
use Rattle.geometry.specs.declared.Superblock.{Superblock}

-- the pass by its number
abbrev pub pass_of : ℕ → Pass
pass_of pass = cond (eqb pass 0) Vertical Horizontal

-- sub: the subsampling in the direction of the filter
abbrev pub sub : Superblock → Pass → Bool
sub s Vertical = s.subx
sub s Horizontal = s.suby

-- the subsampling along the edges
abbrev pub along_sub : Superblock → Pass → Bool
along_sub s Vertical = s.suby
along_sub s Horizontal = s.subx

-- edges are 0 .. (16 >> sub) - 1, and positions of an edge 0 .. edgeLen - 1
unfoldable pub edge_count : Superblock → Pass → ℕ
edge_count s pass = shr 16 (sub s pass)

unfoldable pub edge_len : Superblock → Pass → ℕ
edge_len s pass = shr 64 (along_sub s pass)

-- an edge has 8 cells: the first position of cell c, and how many it has
abbrev pub cell_start : Superblock → Pass → (c : ℕ) → ℕ
cell_start s pass c = shr (8 * c) (along_sub s pass)

abbrev pub cell_len : Superblock → Pass → ℕ
cell_len s pass = shr 8 (along_sub s pass)
