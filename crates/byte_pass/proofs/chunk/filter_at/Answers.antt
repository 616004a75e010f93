use Rattle.std.proofs.Common.{ℕ, ◌≡◌, ◌+◌, ◌-◌, sym, ap, ◌∙◌, arith, get_or}
use Rattle.pass.specs.Chunks.{keyed_run}
use Rattle.window.specs.Stencil.{Stencil, in_turn}
use Rattle.window.specs.StencilLaws.{in_turn_none, in_turn_split}
use Rattle.byte_pass.proofs.chunk.filter_at.Goals as goal
use Rattle.byte_pass.proofs.chunk.filter_at.Goals.{then-n-gt0, else-n-gt0}

pub returns : goal.returns
returns c =
    let a = c.args in
    let w = a.w.now in
    let n = c.inside_count_unchecked-n.result in
    let family : ℕ → Stencil = keyed_run w.g a.start.pass a.start.x a.start.y w.sharpness.level 8 (λ j. get_or a.keys.now.of j 0) in
    -- those inside the window are done first
    let inside : c.if-n-gt0.samples ≡ in_turn family n a.samples.now =
    elim c.if-n-gt0.branch [
      | then-n-gt0 w ↦ w.samples-is ∙ w.filter_inside.ensures
      | else-n-gt0 w ↦
          let none : c.inside_count_unchecked-n.result ≡ 0 = omega (arith, w.if-n-gt0.false) in
          w.samples-is ∙ in_turn_none _ _ ∙ ap (λ (m : ℕ). in_turn family m a.samples.now) (sym none)
    ] in
    let all : n + (16 - n) ≡ 16 = omega (arith, c.inside_count_unchecked-n.ensures.0) in
    c.filter_border.ensures
    ∙ ap (in_turn (λ k. family (n + k)) (16 - n)) inside
    ∙ sym (in_turn_split family n (16 - n) a.samples.now)
    ∙ ap (λ (m : ℕ). in_turn family m a.samples.now) all
