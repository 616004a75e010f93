-- The taps of a run that are moved between a list and a table of lanes.
-- Assumes nothing.
use Rattle.std.specs.Prelude.{Bool, cond, ℕ}

-- on each side of the edge: all, or p3 to q3
abbrev pub reach : (all : Bool) → ℕ
reach all = cond all 8 4
