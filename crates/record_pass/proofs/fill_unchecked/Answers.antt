use Rattle.std.proofs.Common.{arith, zero-add}
use Rattle.std.proofs.lemmas.List.{get_or_default}
use Rattle.base.specs.Filled.{filled_none, filled_more}
use Rattle.cell_records.specs.CellRecord.{none}
use Rattle.record_pass.specs.RecordPass.{record_word}
use Rattle.record_pass.proofs.fill_unchecked.Goals as goal

pub loop-i-init : goal.loop-i-init
loop-i-init c = filled_none _ _ _

pub loop-i-preserved : goal.loop-i-preserved
loop-i-preserved c =
    let next = rw zero-add at (filled_more (record_word c.args.records.now) 0 c.loop-i.i c.args.words.now) in
    rw (c.word_of.ensures, c.loop-i.invariant, get_or_default c.args.records.now c.loop-i.i _ none (omega arith)) next
