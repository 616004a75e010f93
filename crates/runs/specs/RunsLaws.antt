-- Laws of runs, for the code.
-- Assumes nothing.
use Rattle.std.specs.Prelude.{◌≡◌, true, List, ℕ, ◌≤◌, length}
use Rattle.std.proofs.Common.{arith}
use Rattle.geometry.specs.declared.Pass.{Pass}
use Rattle.geometry.specs.declared.Pass.TheVariants.{Vertical, Horizontal}
use Rattle.lane_runs.specs.Spread.{Spaced, SpacedRun, LaneRun}
use Rattle.lane_runs.specs.SpreadLaws.{spaced_across, spaced_down}
use Rattle.window.specs.InsideRun.{inside_run, InsideRun, inside_run_lem, first_tap, tap_step, along_step, run_tap}
use Rattle.window.specs.RangeLaws.{InRange}
use Rattle.window.specs.WindowLaws.{Lent, place_lent}
use Rattle.window.specs.declared.WindowShape.{WindowShape}

spaced : (g : WindowShape) (pass : Pass) (at x y n : ℕ) → g.width ≤ g.stride → InsideRun g pass x y n → Spaced at (tap_step g pass) (along_step g pass) n
spaced g Vertical at x y n w h = spaced_across at g.stride n (omega arith)
spaced g Horizontal at x y n w h = spaced_down at g.stride n (omega arith)

-- a run inside the window can be filtered in lanes
pub inside_spaced : (g : WindowShape) (pass : Pass) (x y n : ℕ) (samples : List ℕ) → Lent g (length samples) → inside_run g pass x y n ≡ true → n ≤ 16
    → SpacedRun (first_tap g pass x y) (tap_step g pass) (along_step g pass) n samples
inside_spaced g pass x y n samples w e few = record {
  few = few;
  spaced = spaced g pass (first_tap g pass x y) x y n w.rows (inside_run_lem g pass x y n e);
  lent = λ l k h m. let t = run_tap g pass x y n l k e h m in rw t.is (place_lent g (length samples) t.x' t.y' w t.inside);
}

pub inside_lanes : (g : WindowShape) (pass : Pass) (x y n : ℕ) (samples : List ℕ) → Lent g (length samples) → inside_run g pass x y n ≡ true → n ≤ 16 → InRange g 4096 samples
    → LaneRun (first_tap g pass x y) (tap_step g pass) (along_step g pass) n samples
inside_lanes g pass x y n samples w e few r = record {
  run = inside_spaced g pass x y n samples w e few;
  small = λ l k h m. let t = run_tap g pass x y n l k e h m in rw t.is (r.below t.x' t.y' t.inside);
}
