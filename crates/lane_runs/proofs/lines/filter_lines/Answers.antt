use Rattle.std.proofs.Common.{◌≡◌, arith}
use Rattle.line.specs.SampleFiltering.{sample_filtering}
use Rattle.line.specs.SampleFilteringLaws.{filters_large}
use Rattle.lane_runs.proofs.lines.filter_lines.Goals as goal

pub returns-in_default : goal.returns-in_default
returns-in_default g c =
    let a = c.args in
    let s = a.f in
    let same : sample_filtering a.f.depth.bits a.size s.limit s.blimit s.thresh ≡ sample_filtering a.f.depth.bits 2 s.limit s.blimit s.thresh =
    λ i t. filters_large a.f.depth.bits a.size s.limit s.blimit s.thresh t (omega (arith, c.in_default)) i in
    rw same c.filter_sized-in_default.ensures
