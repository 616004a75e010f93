use Rattle.std.proofs.Common.{◌+◌, arith}
use Rattle.byte_rows.specs.RowsLaws.{across_stored}
use Rattle.byte_rows.proofs.across.store_across.Goals as goal

pub returns-then-all : goal.returns-then-all
returns-then-all c =
    let a = c.args in
    rw (c.if-all.true, c.store_taps.ensures)
    (across_stored a.lines.at a.lines.along a.lines.n 0 16 (a.lines.at + 0) (omega arith) (omega arith) a.samples.now a.t.now _ c.requires (omega arith) c.turn.ensures)

pub returns-else-all : goal.returns-else-all
returns-else-all c =
    let a = c.args in
    rw (c.if-all.false, c.store_taps-else-all.ensures)
    (across_stored a.lines.at a.lines.along a.lines.n 4 8 (a.lines.at + 4) (omega arith) (omega arith) a.samples.now a.t.now _ c.requires (omega arith) c.turn_middle_back.ensures)
