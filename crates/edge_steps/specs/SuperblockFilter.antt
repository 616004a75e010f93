-- 8.8.2: one position of a superblock, plane and pass, steps 2 to 14; step 1 is in Positions of the crate positions, and steps 7 and 9
-- in ModeInfo of the crate blocks. A superblock has the subsampling that holds in its plane.
-- Assumes nothing.
use Rattle.std.specs.Prelude.{Bool, false, not, ◌&&◌, ◌||◌, ℕ, ◌+◌, ◌*◌, ◌/◌, ◌%◌, ◌^◌, eqb, leb}
use Rattle.geometry.specs.Coordinates.{shl, shr}
use Rattle.geometry.specs.declared.Pass.{Pass}
use Rattle.geometry.specs.declared.Pass.TheVariants.{Vertical, Horizontal}
use Rattle.geometry.specs.declared.Superblock.{Superblock}

-- a is a multiple of n
abbrev pub multiple : (a n : ℕ) → Bool
multiple a n = eqb (a % n) 0

-- steps 2 and 3: loopCol, of x and subX, and loopRow, of y and subY: the cell that the position reads
unfoldable pub loop_cell : (sub : Bool) (at : ℕ) → ℕ
loop_cell sub at = shl (shr (at / 8) sub) sub

-- step 10: isBlockEdge, for the width and height of sbSize in 8-sample blocks
unfoldable pub is_block_edge : Pass → (x y wide high : ℕ) → Bool
is_block_edge Vertical x y wide high = multiple x (8 * wide)
is_block_edge Horizontal x y wide high = multiple y (8 * high)

-- step 11: isTxEdge. The first case: at an odd edge of the horizontal pass, x subsampled and MiCols odd, the last column has none.
abbrev pub last_column : Superblock → Pass → (edge x : ℕ) → Bool
last_column s Vertical edge x = false
last_column s Horizontal edge x =
    s.subx && eqb (s.cols % 2) 1 && eqb (edge % 2) 1 && leb (s.cols * 8) (x + 8)

unfoldable pub is_tx_edge : Superblock → Pass → (edge x tx_sz : ℕ) → Bool
is_tx_edge s pass edge x tx_sz = not (last_column s pass edge x) && multiple edge (2 ^ tx_sz)

-- step 12
unfoldable pub is32_edge : (edge : ℕ) → Bool
is32_edge edge = multiple edge 8

-- step 13. Neither the frame's left border nor its top border is filtered.
abbrev pub at_border : Pass → (x y : ℕ) → Bool
at_border Vertical x y = eqb x 0
at_border Horizontal x y = eqb y 0

unfoldable pub on_screen : Superblock → Pass → (x y : ℕ) → Bool
on_screen s pass x y = not (leb (8 * s.cols) x || leb (8 * s.rows) y || at_border pass x y)

-- step 14. Document 01 calls such a position decided.
unfoldable pub apply_filter : (on_screen is_block_edge is_tx_edge is_intra skip : Bool) → Bool
apply_filter on_screen is_block_edge is_tx_edge is_intra skip = on_screen && (is_block_edge || is_tx_edge && (is_intra || not skip))
