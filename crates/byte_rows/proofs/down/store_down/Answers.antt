use Rattle.std.proofs.Common.{arith}
use Rattle.lane_runs.specs.RowCopiesLaws.{rows_stored}
use Rattle.byte_rows.proofs.down.store_down.Goals as goal

pub returns-then-all : goal.returns-then-all
returns-then-all c =
    let run = c.requires in
    let some = c.args.lines.some in
    rw (c.if-all.true, c.copy_rows_unchecked.ensures) (rows_stored run some 0 16 (omega arith) _ c.told-t)

pub returns-else-all : goal.returns-else-all
returns-else-all c =
    let run = c.requires in
    let some = c.args.lines.some in
    rw (c.if-all.false, c.copy_rows_unchecked-else-all.ensures) (rows_stored run some 4 8 (omega arith) _ c.told-t)
