use Rattle.std.proofs.Common.{◌≡◌, ◌^◌, length}
use Rattle.decided.specs.CellsLeft.{Walking}
use Rattle.decided.specs.RunsLeft.{runs_left}
use Rattle.pass.specs.WorkLaws.{runs_filtered}
use Rattle.window.specs.RangeLaws.{InRange}
use Rattle.window.specs.WindowLaws.{Lent}
use Rattle.pass.proofs.edge.filter_keys.Given as goal

abbrev pub invariant-loop-small : goal.invariant-loop-small
invariant-loop-small l =
    Walking l.small-iterator.cells × Lent l.g (length l.samples) × InRange l.g (2 ^ l.t.depth.bits) l.samples
    × (runs_filtered l.g l.t.s.of l.t.pass l.t.sharpness.level l.t.depth.bits (runs_left l.small-iterator) l.samples
    ≡ runs_filtered l.g l.t.s.of l.t.pass l.t.sharpness.level l.t.depth.bits (runs_left l.initial.small-iterator) l.initial.samples)
