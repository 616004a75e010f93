use Rattle.std.proofs.Common.{ℕ}
use Rattle.std.proofs.lemmas.List.{length-replicate}
use Rattle.lane_runs.specs.RowCopiesLaws.{rows_loaded}
use Rattle.lane_runs.proofs.down.DownLines.gather.Goals as goal

pub returns : goal.returns
returns c =
    rw c.copy_rows_unchecked.ensures (rows_loaded c.requires c.args.self.some _ _ c.args.taps.few _ (length-replicate {A = ℕ} 256 0))
