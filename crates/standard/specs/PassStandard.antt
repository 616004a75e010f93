-- Over the words that the row makes from mode info, the pass is the standard's: its positions, their sizes and levels, and in a
-- window that is the whole plane every sample (`pass_standard`).
-- Assumes nothing.
use Rattle.std.specs.Prelude.{◌≡◌, List, ℕ, ◌<◌}
use Rattle.std.proofs.Common.{arith}
use mathlib.Core.List.{Memᴰ}
use Rattle.base.specs.Notation.{◌>>◌}
use Rattle.decided.specs.Decided.{Position, position, Setting, decision_at, decided}
use Rattle.geometry.specs.declared.Pass.{Pass}
use Rattle.order.specs.Grid.{grid, select}
use Rattle.plane_steps.specs.PlaneSteps.{Shows}
use Rattle.section_8_8.specs.LoopFilterProcess as Std
use Rattle.section_8_8.specs.TapsInPlane.{plane_width, plane_height}
use Rattle.window.specs.declared.WindowShape.{WindowShape}

-- the window is the plane
pub record Whole (f : Std.Frame) (plane : ℕ) (g : WindowShape) : Type 0 where
  pub top : g.top ≡ 0
  pub width : g.width ≡ plane_width f plane
  pub height : g.height ≡ plane_height f plane

-- no sample of the window lies outside of the plane
pub whole_inside : (f : Std.Frame) (plane : ℕ) (g : WindowShape) (x y : ℕ) → Whole f plane g → x < g.width → y < g.height → (x < plane_width f plane) × (y < plane_height f plane)
whole_inside f plane g x y w p q = (omega arith, omega arith)

-- The positions of a pass, their sizes and levels are those of steps 1 to 16. Where the window is the whole plane, its samples become
-- those that the standard's pass leaves; at the border of any other window document 01's rule stands.
pub record StandardPass (f : Std.Frame) (table : (segment ref mode : ℕ) → ℕ) (plane number row col : ℕ) (g : WindowShape) (t : Setting) (pass : Pass) (samples result : List ℕ) : Type 0 where
  pub positions_are : decided t pass ≡ select (λ p. Std.apply_filter f plane number row col p.edge p.i) (grid position (16 >> Std.sub f plane number) (Std.edge_len f plane number))
  pub size_is : (p : Position) → Memᴰ p (decided t pass) → (decision_at t pass p).size ≡ Std.filter_size f plane number row col p.edge p.i
  pub level_is : (p : Position) → Memᴰ p (decided t pass) → (decision_at t pass p).level ≡ Std.lvl f plane number row col p.edge p.i table
  pub samples_are : Whole f plane g → (s : Std.Plane) → Shows g samples s → Shows g result (Std.superblock_pass f table plane number row col s)
