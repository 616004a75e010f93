-- A stencil is what one position does to a flat list of samples: it reads 16 taps, p7 to q7, hands them to a line filter, and stores
-- those taps of what that gives that may be stored.
-- Assumes nothing.
use Rattle.std.specs.Prelude.{Bool, true, false, List, [], ◌∷◌, ℕ, zero, suc, get_or, set}

pub record Stencil : Type 0 where
  -- the place that tap k is read from
  pub reads : ℕ → ℕ
  -- whether it is stored, and where
  pub stored : ℕ → Bool
  pub writes : ℕ → ℕ
  pub line : List ℕ → List ℕ

-- n taps from tap k on
unfoldable pub gather : (reads : ℕ → ℕ) (k n : ℕ) → List ℕ → List ℕ
gather reads k zero w = []
gather reads k (suc n) w = get_or w (reads k) 0 ∷ gather reads (suc k) n w

abbrev pub taps : Stencil → List ℕ → List ℕ
taps a w = gather a.reads 0 16 w

-- a store that a test admits, and the first n of such stores
abbrev pub put : Bool → (place sample : ℕ) → List ℕ → List ℕ
put true place sample w = set w place sample
put false place sample w = w

unfoldable pub scatter : (stored : ℕ → Bool) (writes sample : ℕ → ℕ) (n : ℕ) → List ℕ → List ℕ
scatter stored writes sample zero w = w
scatter stored writes sample (suc n) w = put (stored n) (writes n) (sample n) (scatter stored writes sample n w)

unfoldable pub applied : Stencil → List ℕ → List ℕ
applied a w = scatter a.stored a.writes (λ k. get_or (a.line (taps a w)) k 0) 16 w

-- the first n stencils of a family, one after the other
unfoldable pub in_turn : (ℕ → Stencil) → (n : ℕ) → List ℕ → List ℕ
in_turn family zero w = w
in_turn family (suc n) w = applied (family n) (in_turn family n w)
