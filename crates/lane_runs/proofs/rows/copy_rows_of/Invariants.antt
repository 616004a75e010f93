use Rattle.std.proofs.Common.{◌≡◌, ◌-◌}
use Rattle.lane_runs.specs.RowCopies.{rows_copied}
use Rattle.lane_runs.proofs.rows.copy_rows_of.Given as goal

abbrev pub invariant-loop-k : goal.invariant-loop-k
invariant-loop-k g l =
    l.to ≡ rows_copied l.from l.out_of.at l.out_of.apart l.into.at l.into.apart g.row.N l.fn.rows.lo (l.k - l.fn.rows.lo) l.initial.to
