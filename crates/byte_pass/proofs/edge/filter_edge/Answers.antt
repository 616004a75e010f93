use Rattle.pass.specs.ChunkLaws.{edge_chunks_next}
use Rattle.byte_pass.proofs.edge.filter_edge.Goals as goal

pub loop-m-preserved : goal.loop-m-preserved
loop-m-preserved c = edge_chunks_next _ _ _ _ _ _ _ _ c.loop-m.m _ _ _ c.filter_chunk.ensures c.loop-m.invariant
