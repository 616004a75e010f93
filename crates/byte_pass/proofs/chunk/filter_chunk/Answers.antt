use Rattle.std.proofs.Common.{◌*◌, ◌∙◌, get_or}
use Rattle.pass.specs.ChunkLaws.{chunk-along}
use Rattle.byte_pass.proofs.chunk.filter_chunk.Goals as goal

pub returns-in-Some : goal.returns-in-Some
returns-in-Some c =
    let a = c.args in
    let w = a.w.now in
    let start = c.start.ensures in
    (rw start.0 at c.filter_at.ensures)
    ∙ chunk-along w.g a.c.s.of a.c.pass w.sharpness.level 8 a.keys.now.outer a.keys.now.inner a.c.edge (16 * a.c.m) _ _ 16 (λ j. get_or c.in-Some.along.of j 0) a.samples.now
    start.1 start.2 c.in-Some.ensures
