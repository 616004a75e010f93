use Rattle.std.proofs.Common.{◌≡◌}
use Rattle.pass.specs.Chunks.{pass_chunks}
use Rattle.byte_pass.proofs.edge.filter_keys.Given as goal

abbrev pub invariant-loop-edge : goal.invariant-loop-edge
invariant-loop-edge l = l.samples ≡ pass_chunks l.fn.g l.t.s.of l.t.pass l.t.sharpness.level 8 l.keys.outer l.keys.inner l.edge l.initial.samples
