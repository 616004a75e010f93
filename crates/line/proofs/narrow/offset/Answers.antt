use Rattle.std.specs.Prelude.{pos}
use Rattle.std.proofs.Common.{refl, arith, w32}
use Rattle.base.specs.Depth.{depth_scaled}
use Rattle.base.specs.Machine.{back}
use Rattle.line.proofs.narrow.offset.Goals as goal

pub returns : goal.returns
returns c =
    let s = depth_scaled c.args.depth.bits c.args.depth.known in
    rw (c.from.ensures, back w32 {z = pos c.scaled.result} (omega arith), c.scaled.ensures.0) (refl, omega arith)
