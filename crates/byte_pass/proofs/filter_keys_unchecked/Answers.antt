use Rattle.std.proofs.Common.{◌∙◌}
use Rattle.decided.specs.Decided.{setting}
use Rattle.pass.specs.ChunkLaws.{pass_of_chunks}
use Rattle.byte_pass.proofs.filter_keys_unchecked.Goals as goal

pub returns : goal.returns
returns c =
    let a = c.args in
    record { told = λ chroma cells t. c.filter_keys.ensures ∙ pass_of_chunks a.g (setting a.t.s.of chroma a.t.sharpness.level 8 cells) a.t.pass _ _ t.0 t.1 a.samples.now }
