-- The order of work: any such order of the decided positions ends with the samples that the pass leaves (`order_of_work`).
-- Assumes nothing.
use Rattle.std.specs.Prelude.{◌≡◌, ℕ, length}
use mathlib.Core.List.{List}
use Rattle.base.specs.Outcome.{accepted}
use Rattle.base.specs.Width.{Width}
use Rattle.pass_edges.specs.PassEdges.{pass_of}
use Rattle.geometry.specs.declared.Pass.{Pass}
use Rattle.window.specs.WindowLaws.{Lent}
use Rattle.window.specs.declared.WindowShape.{WindowShape}
use Rattle.decided.specs.Decided.{Position, Setting, decided, setting_of}
use Rattle.pass.specs.Pass.{superblock_loop_filter, superblock_loop_filter_cells}
use Rattle.pass.specs.PassLaws.{ran}
use Rattle.pass.specs.WorkLaws.{pass_length}
use Rattle.pass.specs.OrderOfWork.{SameEnd, WorkOrder, orders_agree, own_order, steps_other}

-- of the definition of the pass, for any window that is lent
pub order_of_steps : (g : WindowShape) (t : Setting) (pass : Pass) (samples : List ℕ) → Lent g (length samples) → (order : List Position) → WorkOrder (decided t pass) order
    → SameEnd g t pass samples (superblock_loop_filter g t pass samples) order
unfolding superblock_loop_filter
order_of_steps g t pass samples w order o = record {
  same = orders_agree g _ w t pass order (decided t pass) o (own_order t pass) samples;
  as_long = pass_length g t pass samples;
  others = steps_other g _ w t pass (decided t pass) samples;
}

-- and of the operation at each width of samples, as its contract states it, whatever it is given: where it accepts, all orders of
-- work come to its result
pub order_of_work : (width : Width) (g : WindowShape) (sharpness depth sub_x sub_y mi_cols mi_rows row col plane pass : ℕ) (cells samples result : List ℕ)
    → superblock_loop_filter_cells width g sharpness depth sub_x sub_y mi_cols mi_rows row col plane pass cells samples ≡ accepted result
    → (order : List Position) → WorkOrder (decided (setting_of sharpness depth sub_x sub_y mi_cols mi_rows row col plane cells) (pass_of pass)) order
    → SameEnd g (setting_of sharpness depth sub_x sub_y mi_cols mi_rows row col plane cells) (pass_of pass) samples result order
order_of_work width g sharpness depth sub_x sub_y mi_cols mi_rows row col plane pass cells samples result e order o =
    let r = ran width g sharpness depth sub_x sub_y mi_cols mi_rows row col plane pass cells samples result e in
    rw r.result_is (order_of_steps g (setting_of sharpness depth sub_x sub_y mi_cols mi_rows row col plane cells) (pass_of pass) samples r.lists.window_lent order o)
