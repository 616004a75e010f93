-- Laws of decisions: the positions that read one cell of an edge have one decision, and how large its numbers are.
-- Assumes nothing.
use Rattle.std.specs.Prelude.{◌≡◌, Bool, true, ◌&&◌, ◌||◌, List, ℕ, ◌+◌, ◌-◌, ◌*◌, ◌/◌, ◌%◌, ◌^◌, ◌≤◌, ◌<◌, eqb, leb, get_or}
use Rattle.std.proofs.Math.Path.{refl}
use Rattle.std.proofs.Math.Bool.{false, cond, not}
use Rattle.std.proofs.Math.Decide.{dec_lt}
use Rattle.std.proofs.Common.{arith, le-leb}
use Rattle.std.proofs.lemmas.Bool.{lt-leb}
use Rattle.cells.specs.Cell.{cell_of, width_log2, height_log2, tx_of}
use Rattle.cells.specs.CellLaws.{cell_fields}
use Rattle.cells.specs.declared.LfCell.{LfCell}
use Rattle.geometry.specs.Coordinates.{shl, shr}
use Rattle.geometry.specs.declared.Pass.{Pass}
use Rattle.geometry.specs.declared.Pass.TheVariants.{Vertical, Horizontal}
use Rattle.geometry.specs.declared.Superblock.{Superblock}
use Rattle.decisions.specs.Decision.{Decision, cell_index, decision_by, decision}
use Rattle.edge_steps.specs.FilterSize.{base_size, at_last, filter_size}
use Rattle.edge_steps.specs.SuperblockFilter.{multiple, loop_cell, is_block_edge, last_column, is_tx_edge, is32_edge, at_border, on_screen, apply_filter}
use Rattle.positions.specs.Positions.{luma_x, luma_y}
use Rattle.pass_edges.specs.PassEdges.{sub, along_sub}

-- a coordinate is compared with the border of a cell by its own cell alone
leb_cell : (m a b : ℕ) → m % 8 ≡ 0 → a / 8 ≡ b / 8 → leb m a ≡ leb m b
leb_cell m a b e h = go (dec_lt a m)
  where
    go : Dec (a < m) → leb m a ≡ leb m b
    go (yes l) = rw (lt-leb m a l, lt-leb m b (omega arith))
    go (no l) = rw (le-leb m a (omega arith), le-leb m b (omega arith))

last_column_cell : (s : Superblock) (pass : Pass) (edge x x' : ℕ) → x / 8 ≡ x' / 8 → last_column s pass edge x ≡ last_column s pass edge x'
last_column_cell s Vertical edge x x' h = refl
last_column_cell s Horizontal edge x x' h = λ t. s.subx && eqb (s.cols % 2) 1 && eqb (edge % 2) 1 && leb_cell (s.cols * 8) (x + 8) (x' + 8) (omega arith) (omega arith) t

at_last_cell : (s : Superblock) (pass : Pass) (x x' y y' : ℕ) → x / 8 ≡ x' / 8 → y / 8 ≡ y' / 8 → at_last s pass x y ≡ at_last s pass x' y'
at_last_cell s Vertical x x' y y' h k = λ t. s.subx && eqb (h t + 1) s.cols
at_last_cell s Horizontal x x' y y' h k = λ t. s.suby && eqb (k t + 1) s.rows

-- positions i and j of an edge: the coordinate that the edge fixes is the same
module _ (s : Superblock) (edge i j : ℕ) where
  same_border : (pass : Pass) → at_border pass (luma_x s pass edge i) (luma_y s pass edge i) ≡ at_border pass (luma_x s pass edge j) (luma_y s pass edge j)
  unfolding luma_x luma_y
  same_border Vertical = refl
  same_border Horizontal = refl

  same_block : (pass : Pass) (wide high : ℕ) → is_block_edge pass (luma_x s pass edge i) (luma_y s pass edge i) wide high ≡ is_block_edge pass (luma_x s pass edge j) (luma_y s pass edge j) wide high
  unfolding is_block_edge luma_x luma_y
  same_block Vertical wide high = refl
  same_block Horizontal wide high = refl

  -- and both coordinates are in the same cell
  module _ (pass : Pass) (x : luma_x s pass edge i / 8 ≡ luma_x s pass edge j / 8) (y : luma_y s pass edge i / 8 ≡ luma_y s pass edge j / 8) where
    same_screen : on_screen s pass (luma_x s pass edge i) (luma_y s pass edge i) ≡ on_screen s pass (luma_x s pass edge j) (luma_y s pass edge j)
    unfolding on_screen
    same_screen = λ t. not (leb_cell (8 * s.cols) _ _ (omega arith) x t || leb_cell (8 * s.rows) _ _ (omega arith) y t || same_border pass t)

    same_index : cell_index s pass edge i ≡ cell_index s pass edge j
    unfolding cell_index loop_cell
    same_index = λ t. (shl (shr (y t) s.suby) s.suby - s.row) * s.cols + shl (shr (x t) s.subx) s.subx

    same_transform : (tx_sz : ℕ) → is_tx_edge s pass edge (luma_x s pass edge i) tx_sz ≡ is_tx_edge s pass edge (luma_x s pass edge j) tx_sz
    unfolding is_tx_edge
    same_transform tx_sz = λ t. not (last_column_cell s pass edge _ _ x t) && multiple edge (2 ^ tx_sz)

    same_size : (tx_sz : ℕ) (is32 : Bool) → filter_size s pass tx_sz is32 (luma_x s pass edge i) (luma_y s pass edge i) ≡ filter_size s pass tx_sz is32 (luma_x s pass edge j) (luma_y s pass edge j)
    unfolding filter_size
    same_size tx_sz is32 = λ t. cond (eqb (base_size tx_sz is32) 2 && at_last_cell s pass _ _ _ _ x y t) 1 (base_size tx_sz is32)

    same_by : (chroma : Bool) (c : LfCell) → decision_by s pass chroma edge i c ≡ decision_by s pass chroma edge j c
    unfolding decision_by
    same_by chroma c = λ t. record {
      decided = apply_filter (same_screen t) (same_block pass (2 ^ width_log2 c (sub s pass)) (2 ^ height_log2 c (sub s pass)) t) (same_transform (tx_of c chroma) t) false c.skipped;
      present = c.present;
      size = same_size (tx_of c chroma) (is32_edge edge) t;
      level = c.level;
    }

    same_cell : (chroma : Bool) (cells : List ℕ) → decision s pass chroma cells edge i ≡ decision s pass chroma cells edge j
    unfolding decision
    same_cell chroma cells = λ t. cond (same_screen t) (same_by chroma (cell_of (get_or cells (same_index t) 0)) t) (record { decided = false; present = false; size = 0; level = 0 })

-- the positions of cell c are in one cell of luma samples, where the superblock starts n cells from the frame's border
along_cell : (n c k : ℕ) (sub : Bool) → k < shr 8 sub → (n * 8 + shl (shr (8 * c) sub + k) sub) / 8 ≡ (n * 8 + shl (shr (8 * c) sub) sub) / 8
along_cell n c k true h = let half : 8 * c / 2 ≡ 4 * c = omega arith in rw half (omega arith)
along_cell n c k false h = omega arith

luma_cell : (s : Superblock) (pass : Pass) (edge c k : ℕ) → k < shr 8 (along_sub s pass) →
    let i = shr (8 * c) (along_sub s pass) in
    (luma_x s pass edge (i + k) / 8 ≡ luma_x s pass edge i / 8) × (luma_y s pass edge (i + k) / 8 ≡ luma_y s pass edge i / 8)
unfolding luma_x luma_y
luma_cell s Vertical edge c k h = (refl, along_cell s.row c k s.suby h)
luma_cell s Horizontal edge c k h = (along_cell s.col c k s.subx h, refl)

-- cell c along an edge has shr 8 positions, from shr (8 * c) on; each has the decision of the first
pub same_decision : (s : Superblock) (pass : Pass) (chroma : Bool) (cells : List ℕ) (edge c k : ℕ) → k < shr 8 (along_sub s pass)
    → decision s pass chroma cells edge (shr (8 * c) (along_sub s pass) + k) ≡ decision s pass chroma cells edge (shr (8 * c) (along_sub s pass))
same_decision s pass chroma cells edge c k h =
    let luma = luma_cell s pass edge c k h in
    same_cell s edge _ _ pass luma.0 luma.1 chroma cells

-- what holds of both cases of a test
either : {A : Type 0} (P : A → Type 0) (b : Bool) {x y : A} → P x → P y → P (cond b x y)
either P true p q = p
either P false p q = q

base_size_small : (tx_sz : ℕ) (is32 : Bool) → base_size tx_sz is32 ≤ 2
base_size_small tx_sz is32 = either (λ (n : ℕ). n ≤ 2) (eqb tx_sz 0 && is32) (omega arith) (omega arith)

filter_size_small : (s : Superblock) (pass : Pass) (tx_sz : ℕ) (is32 : Bool) (x y : ℕ) → filter_size s pass tx_sz is32 x y ≤ 2
unfolding filter_size
filter_size_small s pass tx_sz is32 x y =
    either (λ (n : ℕ). n ≤ 2) (eqb (base_size tx_sz is32) 2 && at_last s pass x y) (omega arith) (base_size_small tx_sz is32)

pub decision_size : (s : Superblock) (pass : Pass) (chroma : Bool) (cells : List ℕ) (edge i : ℕ) → (decision s pass chroma cells edge i).size ≤ 2
unfolding decision decision_by
decision_size s pass chroma cells edge i =
    either (λ (d : Decision). d.size ≤ 2) (on_screen s pass (luma_x s pass edge i) (luma_y s pass edge i))
    (filter_size_small s pass _ (is32_edge edge) _ _)
    (omega arith)

pub decision_level : (s : Superblock) (pass : Pass) (chroma : Bool) (cells : List ℕ) (edge i : ℕ) → (decision s pass chroma cells edge i).level ≤ 63
unfolding decision decision_by
decision_level s pass chroma cells edge i =
    let f = cell_fields (get_or cells (cell_index s pass edge i) 0) in
    either (λ (d : Decision). d.level ≤ 63) (on_screen s pass (luma_x s pass edge i) (luma_y s pass edge i)) (omega arith) (omega arith)
