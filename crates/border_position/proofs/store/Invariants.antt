use Rattle.std.proofs.Common.{◌≡◌, get_or, map}
use Rattle.window.specs.Stencil.{scatter}
use Rattle.window.specs.Window.{tap_stored, tap_written}
use Rattle.border_position.proofs.store.Given as goal

abbrev pub invariant-loop-k : goal.invariant-loop-k
invariant-loop-k g l =
    map g.S.LentSample.value l.samples ≡ scatter (tap_stored l.g l.p.pass l.p.x l.p.y) (tap_written l.g l.p.pass l.p.x l.p.y) (λ j. get_or l.t j 0) l.k (map g.S.LentSample.value l.initial.samples)
