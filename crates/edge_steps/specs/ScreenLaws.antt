-- A position on screen reads a cell of its superblock row.
-- Assumes nothing.
use Rattle.std.specs.Prelude.{◌≡◌, Bool, true, false, ◌||◌, ℕ, ◌+◌, ◌-◌, ◌*◌, ◌/◌, ◌%◌, ◌≤◌, ◌<◌, leb}
use Rattle.std.proofs.Common.{suc-mul, mul-le-mul_right, arith, leb-false}
use Rattle.std.proofs.lemmas.Bool.{not-true}
use Rattle.base.specs.Tests.{neither}
use Rattle.geometry.specs.Coordinates.{shl, shr}
use Rattle.geometry.specs.Frame.{rows_from, cells_from}
use Rattle.geometry.specs.declared.Pass.{Pass}
use Rattle.geometry.specs.declared.Pass.TheVariants.{Vertical, Horizontal}
use Rattle.geometry.specs.declared.Superblock.{Superblock}
use Rattle.edge_steps.specs.SuperblockFilter.{loop_cell, on_screen}
use Rattle.positions.specs.Positions.{Placed, luma_x, luma_y}
use Rattle.pass_edges.specs.PassEdges.{edge_count, edge_len}

-- luma coordinates in the frame and in the superblock row
pub record Seen (s : Superblock) (x y : ℕ) : Type 0 where
  pub column : x < 8 * s.cols
  pub row : y < 8 * s.rows
  pub from : s.row * 8 ≤ y
  pub to : y < s.row * 8 + 64

-- an edge or a position is less than 64 samples from the superblock's start
edge_in : (n : ℕ) (sub : Bool) → n < shr 16 sub → n * shl 4 sub < 64
edge_in n true h = omega arith
edge_in n false h = omega arith

position_in : (n : ℕ) (sub : Bool) → n < shr 64 sub → shl n sub < 64
position_in n true h = omega arith
position_in n false h = omega arith

luma_in : (s : Superblock) (pass : Pass) (edge i : ℕ) → edge < edge_count s pass → i < edge_len s pass → (s.row * 8 ≤ luma_y s pass edge i) × (luma_y s pass edge i < s.row * 8 + 64)
unfolding edge_count edge_len luma_y
luma_in s Vertical edge i h k = let d = position_in i s.suby k in (omega arith, omega arith)
luma_in s Horizontal edge i h k = let d = edge_in edge s.suby h in (omega arith, omega arith)

pub seen : (s : Superblock) (pass : Pass) (edge i : ℕ) → edge < edge_count s pass → i < edge_len s pass
    → on_screen s pass (luma_x s pass edge i) (luma_y s pass edge i) ≡ true → Seen s (luma_x s pass edge i) (luma_y s pass edge i)
unfolding on_screen
seen s pass edge i h k e =
    let x = luma_x s pass edge i in
    let y = luma_y s pass edge i in
    let inside = neither (leb (8 * s.cols) x || leb (8 * s.rows) y) (not-true _ e) in
    let frame = neither (leb (8 * s.cols) x) inside.0 in
    let row = luma_in s pass edge i h k in
    record { column = leb-false _ _ frame.0; row = leb-false _ _ frame.1; from = row.0; to = row.1 }

-- rounding to the subsampling grid leads no further up than the superblock row's first cell, which is on the grid
pub loop_cell_small : (sub : Bool) (at : ℕ) → loop_cell sub at ≤ at / 8
unfolding loop_cell
loop_cell_small true at = omega arith
loop_cell_small false at = omega arith

pub loop_cell_from : (sub : Bool) (at first : ℕ) → first % 8 ≡ 0 → first * 8 ≤ at → first ≤ loop_cell sub at
unfolding loop_cell
loop_cell_from true at first e h = omega arith
loop_cell_from false at first e h = omega arith

-- row r, column c of n rows of m
place-below : (r c m n : ℕ) → r < n → c < m → r * m + c < n * m
place-below r c m n h k = omega (arith, suc-mul r m, mul-le-mul_right m h)

pub cell_below : (s : Superblock) (x y : ℕ) → Placed s → Seen s x y
    → (loop_cell s.suby y - s.row) * s.cols + loop_cell s.subx x < cells_from s.row s.cols s.rows
cell_below s x y p e =
    let row = loop_cell_small s.suby y in
    let column = loop_cell_small s.subx x in
    let below : loop_cell s.suby y - s.row < rows_from s.row s.rows = omega arith in
    place-below _ _ _ _ below (omega arith)
