use Rattle.std.proofs.Common.{◌≡◌}
use Rattle.record_row.specs.RecordRow.{stored}
use Rattle.record_row.proofs.store_records_unchecked.Given as goal

abbrev pub invariant-loop-k : goal.invariant-loop-k
invariant-loop-k l = l.records ≡ stored l.words l.k l.initial.records
