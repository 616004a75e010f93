use Rattle.std.proofs.Common.{◌≡◌, List, ℕ, ◌+◌, get_or}
use Rattle.geometry.specs.declared.Pass.{Pass}
use Rattle.pass.specs.Chunks.{keyed_run}
use Rattle.window.specs.Stencil.{Stencil, in_turn}
use Rattle.window.specs.declared.WindowShape.{WindowShape}
use Rattle.byte_pass.proofs.border.filter_border.Given as goal

-- the positions from the first on
abbrev pub family : WindowShape → Pass → (x y sharpness : ℕ) (keys : List ℕ) (first k : ℕ) → Stencil
family g pass x y sharpness keys first k = keyed_run g pass x y sharpness 8 (λ j. get_or keys j 0) (first + k)

abbrev pub invariant-loop-j : goal.invariant-loop-j
invariant-loop-j l = l.samples ≡ in_turn (family l.w.g l.start.pass l.start.x l.start.y l.w.sharpness.level l.keys.of l.first) l.j l.initial.samples
