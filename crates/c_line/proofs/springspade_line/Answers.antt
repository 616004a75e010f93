use Rattle.std.proofs.Common.{arith}
use Rattle.base.specs.Width.{U16}
use Rattle.c_border.specs.BorderLaws.{crossed_as}
use Rattle.line.specs.LineLaws.{line-place}
use Rattle.c_line.proofs.springspade_line.Goals as goal

pub returns : goal.returns
returns c =
    let a = c.args in
    let e = c.sample_filtering.ensures in
    (crossed_as c.refusal_of.ensures e.0 (omega (arith, line-place U16 a.bit_depth a.filter_size a.limit a.blimit a.thresh a.taps.now)), e.1)
