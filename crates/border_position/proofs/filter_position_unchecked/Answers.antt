use Rattle.std.proofs.Common.{true}
use Rattle.line.specs.SampleFiltering.{sample_filtering}
use Rattle.window.specs.StencilLaws.{applied-made}
use Rattle.window.specs.Window.{stencil}
use Rattle.border_position.proofs.filter_position_unchecked.Goals as goal

pub returns : goal.returns
returns g c =
    let a = c.args in
    applied-made (stencil a.g a.p.pass a.p.x a.p.y true (sample_filtering a.f.depth.bits a.size a.f.limit a.f.blimit a.f.thresh)) _ _ _ _
    c.load-t.ensures.0 c.sample_filtering_unchecked.ensures c.store.ensures
