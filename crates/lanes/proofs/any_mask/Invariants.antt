use Rattle.std.specs.Prelude.{◌≡◌, false}
use Rattle.lanes.specs.Lanes.{NoneTo}
use Rattle.lanes.proofs.any_mask.Given as goal

abbrev pub invariant-loop-l : goal.invariant-loop-l
invariant-loop-l l = l.on ≡ false → NoneTo l.l l.n l.f.depth.bits l.f.limit l.f.blimit l.t
