-- One pass over one superblock of a plane: 8.8.2 with packed cells for mode info, and document 01's rules at the window's border.
-- Assumes nothing.
use Rattle.std.specs.Prelude.{List, ℕ, length}
use Rattle.base.specs.Outcome.{Outcome, accepted}
use Rattle.base.specs.Width.{Width, admits}
use Rattle.faults.specs.Faults.{numbers_refused, lists_refused}
use Rattle.positions.specs.Positions.{plane_x, plane_y}
use Rattle.pass_edges.specs.PassEdges.{pass_of}
use Rattle.decisions.specs.Decision.{Decision}
use Rattle.geometry.specs.declared.Pass.{Pass}
use Rattle.line.specs.SampleFiltering.{sample_filtering}
use Rattle.order.specs.Order.{run}
use Rattle.strength.specs.Strength.{strength_of}
use Rattle.window.specs.Stencil.{applied}
use Rattle.window.specs.Window.{stencil}
use Rattle.window.specs.declared.WindowShape.{WindowShape}
use Rattle.decided.specs.Decided.{Position, Setting, decision_at, decided, filters, setting_of}

-- the sample filtering process with the size and the strength of a decision
unfoldable pub line_of : Setting → Decision → List ℕ → List ℕ
line_of t d =
    let strength = strength_of d.level t.sharpness in
    sample_filtering t.depth d.size strength.limit strength.blimit strength.thresh

-- step 17 at a position, on the samples as they stand
unfoldable pub step : WindowShape → Setting → Pass → Position → List ℕ → List ℕ
step g t pass p samples =
    let s = t.superblock in
    let d = decision_at t pass p in
    applied (stencil g pass (plane_x s pass p.edge p.i) (plane_y s pass p.edge p.i) (filters d) (line_of t d)) samples

-- THE PASS: the steps of the decided positions, in their order
unfoldable pub superblock_loop_filter : WindowShape → Setting → Pass → List ℕ → List ℕ
superblock_loop_filter g t pass samples = run (step g t pass) (decided t pass) samples

-- the operation with document 01's refusals, for samples of a width
unfoldable pub superblock_loop_filter_cells : Width → WindowShape → (sharpness depth sub_x sub_y mi_cols mi_rows row col plane pass : ℕ) (cells samples : List ℕ) → Outcome (List ℕ)
superblock_loop_filter_cells w g sharpness depth sub_x sub_y mi_cols mi_rows row col plane pass cells samples =
    let t = setting_of sharpness depth sub_x sub_y mi_cols mi_rows row col plane cells in
    numbers_refused sharpness (admits w depth) sub_x sub_y mi_cols mi_rows row col plane pass (length cells)
    (lists_refused g t (pass_of pass) samples
    (accepted (superblock_loop_filter g t (pass_of pass) samples)))
