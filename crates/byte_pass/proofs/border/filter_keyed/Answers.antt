use Rattle.std.proofs.Common.{◌∙◌}
use Rattle.std.proofs.lemmas.List.{map-id}
use Rattle.pass.specs.ChunkLaws.{keyed_on}
use Rattle.byte_pass.proofs.border.filter_keyed.Goals as goal

pub returns-then-level-gt0 : goal.returns-then-level-gt0
returns-then-level-gt0 c =
    let a = c.args in
    let f = c.new-f.ensures in
    let level = c.level-level.ensures in
    (simp (map-id, f.0, f.1, f.2, f.3, c.size.ensures.0) at c.filter_position_unchecked.ensures)
    ∙ keyed_on a.w.now.sharpness.level 8 a.key.number a.w.now.g a.p.pass a.p.x a.p.y a.samples.now _ (rw level at c.if-level-gt0.true) (rw level at c.strength-strength.ensures)
