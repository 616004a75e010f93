-- A pass reads no cell behind those of its superblock row, of which there are at most 65,536 (`pass_front`).
-- Assumes nothing.
use Rattle.std.specs.Prelude.{◌≡◌, Bool, not, ◌||◌, ℕ, zero, suc, ◌*◌, ◌/◌, ◌%◌, ◌^◌, ◌<◌, ◌≤◌, length, get_or, take}
use Rattle.std.proofs.Math.Path.{refl, ap}
use Rattle.std.proofs.Common.{sym, ◌∙◌, arith, ltb-true, le-ltb, length-take-le, take_all}
use Rattle.std.proofs.Math.Bool.{true, false}
use mathlib.Core.List.{List, Memᴰ, [], ◌∷◌}
use Rattle.std.proofs.Math.Decide.{dec_lt}
use Rattle.std.proofs.Math.Dec.{ltb}
use Rattle.base.specs.First.{refuse_first}
use Rattle.base.specs.FirstLaws.{found_same, first_same}
use Rattle.base.specs.Outcome.{Outcome, accepted, refuse}
use Rattle.base.specs.Width.{Width, admits}
use Rattle.cells.specs.Cell.{cell_of}
use Rattle.bad_words.specs.BadWord.{bad_word, bad_cell}
use Rattle.decided.specs.Decided.{Position, position, Setting, setting, superblock_of, decision_at, is_decided, decided}
use Rattle.decisions.specs.Decision.{Decision, cell_index, decision_by, decision, without_level, levelless}
use Rattle.edge_steps.specs.ScreenLaws.{seen, cell_below}
use Rattle.edge_steps.specs.SuperblockFilter.{on_screen}
use Rattle.faults.specs.Faults.{lists_refused}
use Rattle.geometry.specs.Frame.{bad_subsampling, bad_frame_size, bad_start, cells_from}
use Rattle.geometry.specs.FrameLaws.{sized, cells_small}
use Rattle.geometry.specs.declared.Pass.{Pass}
use Rattle.geometry.specs.declared.Superblock.{Superblock}
use Rattle.order.specs.Grid.{grid, select_mem, select_same}
use Rattle.order.proofs.Grid.{grid_mem}
use Rattle.order.specs.Order.{run, run_same}
use Rattle.positions.specs.Positions.{Placed, luma_x, luma_y}
use Rattle.pass_edges.specs.PassEdges.{edge_count, edge_len, pass_of}
use Rattle.positions.specs.PositionsLaws.{placed}
use Rattle.window.specs.Window.{bad_window, bad_sample}
use Rattle.window.specs.declared.WindowShape.{WindowShape}
use Rattle.pass.specs.Pass.{line_of, step, superblock_loop_filter, superblock_loop_filter_cells}

-- ---- lists that agree on the cells of the row

module _ (g : WindowShape) (s : Superblock) (chroma : Bool) (sharpness depth : ℕ) (pass : Pass) (l m : List ℕ) (p : Placed s)
    (agree : (k : ℕ) → k < cells_from s.row s.cols s.rows → get_or l k 0 ≡ get_or m k 0) where
  abbrev with : List ℕ → Setting
  with cells = setting s chroma sharpness depth cells

  -- a position on screen reads a cell of the row
  decision-front : (edge i : ℕ) → edge < edge_count s pass → i < edge_len s pass → decision s pass chroma l edge i ≡ decision s pass chroma m edge i
  unfolding decision cell_index
  decision-front edge i h k = on (on_screen s pass (luma_x s pass edge i) (luma_y s pass edge i)) refl
    where
      on : (b : Bool) → on_screen s pass (luma_x s pass edge i) (luma_y s pass edge i) ≡ b → decision s pass chroma l edge i ≡ decision s pass chroma m edge i
      on true e = rw e (ap (λ (w : ℕ). decision_by s pass chroma edge i (cell_of w)) (agree _ (cell_below s _ _ p (seen s pass edge i h k e))))
      on false e = rw e refl

  levelless-front : (k : ℕ) → k < 64 * edge_count s pass → levelless s pass chroma l k ≡ levelless s pass chroma m k
  unfolding levelless
  levelless-front k h = on (ltb (k % 64) (edge_len s pass)) refl
    where
      on : (b : Bool) → ltb (k % 64) (edge_len s pass) ≡ b → levelless s pass chroma l k ≡ levelless s pass chroma m k
      on true e = rw e (ap without_level (decision-front (k / 64) (k % 64) (omega (arith, h)) (ltb-true _ _ e)))
      on false e = rw e refl

  of_grid : (q : Position) → Memᴰ q (grid position (edge_count s pass) (edge_len s pass)) → decision_at (with l) pass q ≡ decision_at (with m) pass q
  of_grid q k = let c = grid_mem position (edge_count s pass) (edge_len s pass) k in rw c.is (decision-front c.e c.i (omega (arith, c.high)) c.to)

  decided-front : decided (with l) pass ≡ decided (with m) pass
  unfolding decided is_decided
  decided-front = select_same (is_decided (with l) pass) (is_decided (with m) pass) (grid position (edge_count s pass) (edge_len s pass)) (λ q k. ap (λ (d : Decision). d.decided) (of_grid q k))

  step-front : (q : Position) → Memᴰ q (decided (with l) pass) → (samples : List ℕ) → step g (with l) pass q samples ≡ step g (with m) pass q samples
  unfolding decided step line_of
  step-front q k samples = rw (of_grid q (select_mem (is_decided (with l) pass) _ k)) refl

  filter_front : (samples : List ℕ) → superblock_loop_filter g (with l) pass samples ≡ superblock_loop_filter g (with m) pass samples
  unfolding superblock_loop_filter
  filter_front samples =
      run_same (step g (with l) pass) (step g (with m) pass) (decided (with l) pass) step-front samples
      ∙ ap (λ (d : List Position). run (step g (with m) pass) d samples) decided-front

  lists-front : (samples : List ℕ) → lists_refused g (with l) pass samples (accepted (superblock_loop_filter g (with l) pass samples)) ≡ lists_refused g (with m) pass samples (accepted (superblock_loop_filter g (with m) pass samples))
  lists-front samples = λ i.
      let n = cells_from s.row s.cols s.rows in
      refuse (found_same (bad_cell l) (bad_cell m) n same i) 11 (first_same (bad_cell l) (bad_cell m) n same i)
      (refuse (bad_window g (length samples)) 12 0
      (refuse_first (bad_sample g (2 ^ depth) samples) (g.height * g.width) 13
      (refuse (found_same _ _ (64 * edge_count s pass) levelless-front i) 14 (first_same _ _ (64 * edge_count s pass) levelless-front i)
      (accepted (filter_front samples i)))))
    where
      same : (k : ℕ) → k < cells_from s.row s.cols s.rows → bad_cell l k ≡ bad_cell m k
      same k h = ap bad_word (agree k h)

-- ---- the first 65,536 cells

refuse_same : {A : Type 0} (test : Bool) (number place : ℕ) {a b : Outcome A} → (test ≡ false → a ≡ b) → refuse test number place a ≡ refuse test number place b
refuse_same true number place h = refl
refuse_same false number place h = h refl

refuse_alike : {A : Type 0} (test test' : Bool) (number place : ℕ) {a b : Outcome A} → test ≡ test' → (test' ≡ false → a ≡ b) → refuse test number place a ≡ refuse test' number place b
refuse_alike test test' number place e h = rw e (refuse_same test' number place h)

get_d_take : (n : ℕ) (l : List ℕ) (k : ℕ) → k < n → get_or (take n l) k 0 ≡ get_or l k 0
get_d_take zero l k h = omega (arith, h)
get_d_take (suc n) [] k h = refl
get_d_take (suc n) (x ∷ l) zero h = refl
get_d_take (suc n) (x ∷ l) (suc k) h = get_d_take n l k (omega (arith, h))

short_take : (n : ℕ) (l : List ℕ) (c : ℕ) → c ≤ n → ltb (length (take n l)) c ≡ ltb (length l) c
short_take n l c h = go (dec_lt n (length l))
  where
    go : Dec (n < length l) → ltb (length (take n l)) c ≡ ltb (length l) c
    go (yes k) = rw (length-take-le n l (omega (arith, k))) (le-ltb n c h ∙ sym (le-ltb (length l) c (omega (arith, k, h))))
    go (no k) = rw (take_all n l (omega (arith, k)))

pub pass_front : (w : Width) (g : WindowShape) (sharpness depth sub_x sub_y mi_cols mi_rows row col plane pass : ℕ) (cells samples : List ℕ)
    → superblock_loop_filter_cells w g sharpness depth sub_x sub_y mi_cols mi_rows row col plane pass (take 65536 cells) samples
    ≡ superblock_loop_filter_cells w g sharpness depth sub_x sub_y mi_cols mi_rows row col plane pass cells samples
unfolding superblock_loop_filter_cells
pass_front w g sharpness depth sub_x sub_y mi_cols mi_rows row col plane pass cells samples =
    refuse_same (ltb 7 sharpness) 1 0 (λ t1.
    refuse_same (not (admits w depth)) 2 0 (λ t2.
    refuse_same (bad_subsampling sub_x sub_y) 3 0 (λ t3.
    refuse_same (bad_frame_size mi_cols mi_rows) 4 0 (λ t4.
    refuse_same (bad_start row mi_rows) 5 0 (λ t5.
    let few = cells_small row mi_cols mi_rows (sized mi_cols mi_rows t4).cols in
    refuse_alike _ _ 7 0 (short_take 65536 cells (cells_from row mi_cols mi_rows) few) (λ t7.
    refuse_same (ltb 2 plane || ltb 1 pass) 9 0 (λ t9.
    refuse_same (bad_start col mi_cols) 10 0 (λ t10.
    lists-front g (superblock_of sub_x sub_y mi_cols mi_rows row col plane) (ltb 0 plane) sharpness depth (pass_of pass) (take 65536 cells) cells
    (placed (superblock_of sub_x sub_y mi_cols mi_rows row col plane) t4 t5 t10) (λ k h. get_d_take 65536 cells k (omega (arith, h, few))) samples))))))))
