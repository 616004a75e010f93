-- Laws of the pass: what is known of one that was accepted, and where a refusal lies.
-- Assumes nothing.
use Rattle.std.specs.Prelude.{◌≡◌, not, ◌||◌, List, ℕ, ◌*◌, ◌^◌, ◌≤◌, ltb, length}
use Rattle.std.proofs.Math.Path.{sym}
use Rattle.std.proofs.Common.{arith}
use Rattle.base.specs.First.{found, first_is}
use Rattle.base.specs.Outcome.{accepted, returned}
use Rattle.base.specs.OutcomeLaws.{result_is, refuse-place}
use Rattle.base.specs.Width.{Width, admits}
use Rattle.bad_words.specs.BadWord.{bad_cell}
use Rattle.decided.specs.Decided.{Setting, setting_of}
use Rattle.decisions.specs.Decision.{levelless}
use Rattle.faults.specs.FaultsLaws.{Numbers, numbers_passed, Lists, lists-passed}
use Rattle.geometry.specs.Frame.{bad_subsampling, bad_frame_size, bad_start, cells_from}
use Rattle.geometry.specs.FrameLaws.{sized, cells_small}
use Rattle.pass_edges.specs.PassEdges.{pass_of, edge_count}
use Rattle.pass_edges.specs.PassEdgesLaws.{edge_count_small}
use Rattle.window.specs.SampleLaws.{samples_small}
use Rattle.window.specs.Window.{bad_window, bad_sample}
use Rattle.window.specs.WindowLaws.{lent}
use Rattle.window.specs.declared.WindowShape.{WindowShape}
use Rattle.pass.specs.Pass.{superblock_loop_filter, superblock_loop_filter_cells}

module _ (w : Width) (g : WindowShape) (sharpness depth sub_x sub_y mi_cols mi_rows row col plane pass : ℕ) (cells samples : List ℕ) where
  abbrev given : Setting
  given = setting_of sharpness depth sub_x sub_y mi_cols mi_rows row col plane cells

  -- its tests are passed, and this is its result
  pub record Ran (result : List ℕ) : Type 0 where
    pub numbers : Numbers sharpness (admits w depth) sub_x sub_y mi_cols mi_rows row col plane pass (length cells)
    pub lists : Lists g given (pass_of pass) samples
    pub result_is : result ≡ superblock_loop_filter g given (pass_of pass) samples

  pub ran : (result : List ℕ) → superblock_loop_filter_cells w g sharpness depth sub_x sub_y mi_cols mi_rows row col plane pass cells samples ≡ accepted result → Ran result
  unfolding superblock_loop_filter_cells
  ran result e =
      let n = numbers_passed sharpness (admits w depth) sub_x sub_y mi_cols mi_rows row col plane pass (length cells) _ e in
      let l = lists-passed g given (pass_of pass) samples _ n.1 in
      record { numbers = n.0; lists = l.0; result_is = sym (result_is l.1) }

-- a place fits 32 bits: it is a cell of the row, a sample of the window, a position of the grid, or 0
pub pass_place : (w : Width) (g : WindowShape) (sharpness depth sub_x sub_y mi_cols mi_rows row col plane pass : ℕ) (cells samples : List ℕ)
    → (returned (superblock_loop_filter_cells w g sharpness depth sub_x sub_y mi_cols mi_rows row col plane pass cells samples)).place ≤ 4294967295
unfolding superblock_loop_filter_cells
pass_place w g sharpness depth sub_x sub_y mi_cols mi_rows row col plane pass cells samples =
    let s = (setting_of sharpness depth sub_x sub_y mi_cols mi_rows row col plane cells).superblock in
    let cell = bad_cell cells in
    let sample = bad_sample g (2 ^ depth) samples in
    let level = levelless s (pass_of pass) (ltb 0 plane) cells in
    refuse-place 4294967295 (ltb 7 sharpness) 1 0 _ (λ e. omega arith) (λ t1.
    refuse-place 4294967295 (not (admits w depth)) 2 0 _ (λ e. omega arith) (λ t2.
    refuse-place 4294967295 (bad_subsampling sub_x sub_y) 3 0 _ (λ e. omega arith) (λ t3.
    refuse-place 4294967295 (bad_frame_size mi_cols mi_rows) 4 0 _ (λ e. omega arith) (λ t4.
    refuse-place 4294967295 (bad_start row mi_rows) 5 0 _ (λ e. omega arith) (λ t5.
    refuse-place 4294967295 (ltb (length cells) (cells_from row mi_cols mi_rows)) 7 0 _ (λ e. omega arith) (λ t7.
    refuse-place 4294967295 (ltb 2 plane || ltb 1 pass) 9 0 _ (λ e. omega arith) (λ t9.
    refuse-place 4294967295 (bad_start col mi_cols) 10 0 _ (λ e. omega arith) (λ t10.
    refuse-place 4294967295 (found cell (cells_from row mi_cols mi_rows)) 11 _ _
    (λ e. omega (arith, (first_is cell _ e).to, cells_small row mi_cols mi_rows (sized mi_cols mi_rows t4).cols)) (λ t11.
    refuse-place 4294967295 (bad_window g (length samples)) 12 0 _ (λ e. omega arith) (λ t12.
    refuse-place 4294967295 (found sample (g.height * g.width)) 13 _ _
    (λ e. omega (arith, (first_is sample _ e).to, samples_small g (length samples) (lent g (length samples) t12))) (λ t13.
    refuse-place 4294967295 (found level (64 * edge_count s (pass_of pass))) 14 _ _
    (λ e. omega (arith, (first_is level _ e).to, edge_count_small s (pass_of pass)))
    (λ t14. omega arith))))))))))))
