-- Positions whose first tap is not left of the plane or above the window.
-- Assumes nothing.
use Rattle.std.specs.Prelude.{◌≡◌, true, ℕ, ◌+◌, ◌≤◌}
use Rattle.geometry.specs.declared.Pass.{Pass}
use Rattle.geometry.specs.declared.Pass.TheVariants.{Vertical, Horizontal}
use Rattle.window.specs.InsideRun.{inside_run, inside_run_lem}
use Rattle.window.specs.declared.WindowShape.{WindowShape}

-- p7 of (x, y) is not left of the plane or above the window
abbrev pub Near : WindowShape → Pass → (x y : ℕ) → Type 0
Near g Vertical x y = (8 ≤ x) × (g.top ≤ y)
Near g Horizontal x y = g.top + 8 ≤ y

pub inside_near : (g : WindowShape) (pass : Pass) (x y n : ℕ) → inside_run g pass x y n ≡ true → Near g pass x y
inside_near g Vertical x y n e = let h = inside_run_lem g Vertical x y n e in (h.0, h.2)
inside_near g Horizontal x y n e = (inside_run_lem g Horizontal x y n e).1
