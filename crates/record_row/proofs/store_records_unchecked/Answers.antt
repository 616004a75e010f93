use Rattle.std.proofs.Common.{add-one, refl, sym}
use Rattle.record_row.specs.RecordRow.{stored}
use Rattle.record_row.specs.RecordRowLaws.{stored_none}
use Rattle.record_row.proofs.store_records_unchecked.Goals as goal

pub loop-k-init : goal.loop-k-init
loop-k-init c = sym (stored_none _ _)

pub loop-k-preserved : goal.loop-k-preserved
unfolding stored
loop-k-preserved c = rw (c.record_of.ensures, c.loop-k.invariant, add-one) refl
