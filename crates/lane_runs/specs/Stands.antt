-- The way in which the positions of a run stand.
-- Assumes nothing.
use Rattle.std.specs.Prelude.{◌≡◌}
use Rattle.lane_runs.specs.declared.direction.Direction.{Direction}
use Rattle.lane_runs.specs.declared.direction.Direction.TheVariants.{Across, Down}
use Rattle.tap_places.specs.declared.tap_run.TapRun.{TapRun}

-- the taps of a position stand side by side, or the positions do
abbrev pub Stands : TapRun → Direction → Type 0
Stands run (Across s) = (run.step ≡ 1) × (s.at ≡ run.at) × (s.along ≡ run.along) × (s.n ≡ run.n)
Stands run (Down s) = (run.along ≡ 1) × (s.at ≡ run.at) × (s.step ≡ run.step) × (s.n ≡ run.n)
