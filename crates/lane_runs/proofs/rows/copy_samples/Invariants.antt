use Rattle.std.proofs.Common.{◌≡◌}
use Rattle.lane_runs.specs.RowCopies.{row_copied}
use Rattle.lane_runs.proofs.rows.copy_samples.Given as goal

abbrev pub invariant-loop-k : goal.invariant-loop-k
invariant-loop-k g l = l.to ≡ row_copied l.from l.fn.place l.k l.fn.at l.initial.to
