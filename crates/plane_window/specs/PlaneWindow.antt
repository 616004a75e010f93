-- A window lent as a record, and the numbers of a pass as another: the pass is that over samples, shape and numbers.
-- Assumes nothing.
use Rattle.std.specs.Prelude.{List, ℕ}
use Rattle.base.specs.Outcome.{Outcome}
use Rattle.base.specs.Width.{U16}
use Rattle.geometry.specs.declared.pass_numbers.PassNumbers.{PassNumbers}
use Rattle.pass.specs.Pass.{superblock_loop_filter_cells}
use Rattle.window.specs.declared.WindowShape.{WindowShape}

abbrev pub shape : (width height stride y_origin : ℕ) → WindowShape
shape width height stride y_origin = record { width = width; height = height; stride = stride; top = y_origin }

abbrev pub pass_over : WindowShape → PassNumbers → (cells samples : List ℕ) → Outcome (List ℕ)
pass_over g p cells samples =
    superblock_loop_filter_cells U16 g p.sharpness p.bit_depth p.sub_x p.sub_y p.mi_cols p.mi_rows p.mi_row p.mi_col p.plane p.pass cells samples
