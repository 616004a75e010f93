use Rattle.std.proofs.Common.{◌≡◌}
use Rattle.line.specs.SampleFiltering.{sample_filtering}
use Rattle.window.specs.Stencil.{in_turn}
use Rattle.window.specs.Window.{run_of}
use Rattle.runs.proofs.border.filter_border.Given as goal

abbrev pub invariant-loop-k : goal.invariant-loop-k
invariant-loop-k l =
    l.samples ≡ in_turn (run_of l.g l.start.pass l.start.x l.start.y (sample_filtering l.f.depth.bits l.size l.f.limit l.f.blimit l.f.thresh)) l.k l.initial.samples
