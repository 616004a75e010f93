use Rattle.pass.specs.ChunkLaws.{pass_chunks_next}
use Rattle.byte_pass.proofs.edge.filter_keys.Goals as goal

pub loop-edge-preserved : goal.loop-edge-preserved
loop-edge-preserved c = pass_chunks_next _ _ _ _ _ _ _ c.loop-edge.edge _ _ _ c.filter_edge.ensures c.loop-edge.invariant
