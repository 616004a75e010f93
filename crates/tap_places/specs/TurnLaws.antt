-- Laws of the loops over a position's taps and over a run's positions: one more turn.
-- Assumes nothing.
use Rattle.std.specs.Prelude.{◌≡◌, Bool, List, ℕ, ◌+◌}
use Rattle.std.proofs.Common.{ap, ◌∙◌}
use Rattle.window.specs.Stencil.{Stencil, put, scatter, applied, in_turn}
use Rattle.window.specs.StencilLaws.{scatter_more, in_turn_more}

-- of a loop that stores, and of one that does position after position
pub scatter_next : (stored : ℕ → Bool) (writes sample : ℕ → ℕ) (n : ℕ) (w₀ w r : List ℕ) → r ≡ put (stored n) (writes n) (sample n) w → w ≡ scatter stored writes sample n w₀
    → r ≡ scatter stored writes sample (n + 1) w₀
scatter_next stored writes sample n w₀ w r e h = e ∙ ap (put (stored n) (writes n) (sample n)) h ∙ scatter_more stored writes sample n w₀

pub in_turn_next : (family : ℕ → Stencil) (n : ℕ) (w₀ w r : List ℕ) → r ≡ applied (family n) w → w ≡ in_turn family n w₀ → r ≡ in_turn family (n + 1) w₀
in_turn_next family n w₀ w r e h = e ∙ ap (applied (family n)) h ∙ in_turn_more family n w₀
