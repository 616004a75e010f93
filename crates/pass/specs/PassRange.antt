-- A pass over samples below 2 to the depth leaves samples below 2 to the depth, so a second pass need not test them.
-- Assumes nothing.
use Rattle.std.specs.Prelude.{◌≡◌, List, ℕ, ◌^◌, length}
use Rattle.base.specs.Outcome.{accepted}
use Rattle.base.specs.Width.{Width, admits-supported}
use Rattle.decided.specs.Decided.{decided, setting_of}
use Rattle.pass_edges.specs.PassEdges.{pass_of}
use Rattle.window.specs.RangeLaws.{InRange, tested_range}
use Rattle.window.specs.declared.WindowShape.{WindowShape}
use Rattle.pass.specs.Pass.{superblock_loop_filter, superblock_loop_filter_cells}
use Rattle.pass.specs.PassLaws.{ran}
use Rattle.pass.specs.WorkLaws.{Ready, steps_range}

-- of the operation: where it accepts, the samples of its result are in range
pub pass_range : (w : Width) (g : WindowShape) (sharpness depth sub_x sub_y mi_cols mi_rows row col plane pass : ℕ) (cells samples result : List ℕ)
    → superblock_loop_filter_cells w g sharpness depth sub_x sub_y mi_cols mi_rows row col plane pass cells samples ≡ accepted result → InRange g (2 ^ depth) result
unfolding superblock_loop_filter
pass_range w g sharpness depth sub_x sub_y mi_cols mi_rows row col plane pass cells samples result e =
    let t = setting_of sharpness depth sub_x sub_y mi_cols mi_rows row col plane cells in
    let r = ran w g sharpness depth sub_x sub_y mi_cols mi_rows row col plane pass cells samples result e in
    rw r.result_is
    (steps_range g (length samples) r.lists.window_lent t (pass_of pass) (admits-supported depth w r.numbers.depth_known) (decided t (pass_of pass)) samples (tested_range g (2 ^ depth) samples r.lists.samples_good))

-- a pass that is accepted has all that the work asks for
pub accepted_ready : (w : Width) (g : WindowShape) (sharpness depth sub_x sub_y mi_cols mi_rows row col plane pass : ℕ) (cells samples result : List ℕ)
    → superblock_loop_filter_cells w g sharpness depth sub_x sub_y mi_cols mi_rows row col plane pass cells samples ≡ accepted result
    → Ready g (setting_of sharpness depth sub_x sub_y mi_cols mi_rows row col plane cells) samples
accepted_ready w g sharpness depth sub_x sub_y mi_cols mi_rows row col plane pass cells samples result e =
    let r = ran w g sharpness depth sub_x sub_y mi_cols mi_rows row col plane pass cells samples result e in
    record {
      window = r.lists.window_lent;
      range = tested_range g (2 ^ depth) samples r.lists.samples_good;
      placed = r.numbers.placed_at _ _;
      cells = r.numbers.cells_lent_lem;
      sharpness = r.numbers.sharpness_fits;
      depth = admits-supported depth w r.numbers.depth_known;
    }
