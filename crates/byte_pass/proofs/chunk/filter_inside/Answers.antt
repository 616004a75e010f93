use Rattle.std.proofs.Common.{◌∙◌, get_or}
use Rattle.pass.specs.ChunkLaws.{keyed_inside}
use Rattle.runs.specs.RunsLaws.{inside_spaced}
use Rattle.byte_pass.proofs.chunk.filter_inside.Goals as goal

pub filter_chunk_unchecked-requires : goal.filter_chunk_unchecked-requires
filter_chunk_unchecked-requires c =
    let a = c.args in
    let p = c.requires in
    let made = c.taps_unchecked-run.ensures in
    rw (made.0, made.1, made.2, made.3) (inside_spaced a.w.now.g a.start.pass a.start.x a.start.y a.n a.samples.now p.0 p.1 p.2)

pub returns : goal.returns
returns c =
    let a = c.args in
    let made = c.taps_unchecked-run.ensures in
    (rw (made.0, made.1, made.2, made.3) at c.filter_chunk_unchecked.ensures)
    ∙ keyed_inside a.w.now.g a.start.pass a.start.x a.start.y a.n a.w.now.sharpness.level 8 (λ k. get_or a.keys.now.of k 0) a.samples.now c.requires.1
