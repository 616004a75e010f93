use Rattle.std.proofs.Common.{◌≡◌}
use Rattle.pass.specs.Chunks.{edge_chunks}
use Rattle.byte_pass.proofs.edge.filter_edge.Given as goal

abbrev pub invariant-loop-m : goal.invariant-loop-m
invariant-loop-m l = l.samples ≡ edge_chunks l.w.g l.s.of l.pass l.w.sharpness.level 8 l.keys.outer l.keys.inner l.edge l.m l.initial.samples
