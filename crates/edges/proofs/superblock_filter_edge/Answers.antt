use Rattle.std.proofs.Common.{sym, ◌∙◌}
use Rattle.positions.specs.PositionsLaws.{placed}
use Rattle.edges.proofs.superblock_filter_edge.Goals as goal

pub invariant_of-at : goal.invariant_of-at
invariant_of-at c =
    record {
      placed = placed _ (sym c.bad_frame_size.ensures ∙ c.if-bad_frame_size.false) (sym c.bad_start.ensures ∙ c.if-bad_start.false) (sym c.bad_start-2.ensures ∙ c.if-bad_start-2.false);
    }
