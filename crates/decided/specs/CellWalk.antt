-- A walk over the cells of a pass that filter, one after the other: the runs that are closed on the way, and the run that may still grow.
-- Assumes nothing.
use Rattle.std.specs.Prelude.{◌≡◌, refl, Bool, true, false, cond, ℕ, List, [], ◌∷◌, ◌++◌}
use Rattle.std.proofs.Common.{ap}
use Rattle.geometry.specs.declared.Pass.{Pass}
use Rattle.geometry.specs.declared.Superblock.{Superblock}
use Rattle.order.specs.Grid.{select, grid}
use Rattle.decided.specs.KeyRuns.{key_cell}
use Rattle.decided.specs.Runs.{joins, longer, joined_from, run_filters}
use Rattle.decided.specs.declared.EdgeRun.{EdgeRun}

-- while a is pending, the cell b arrives: the runs that it closes, and the run that is pending then
unfoldable pub closed : (a b : EdgeRun) → List EdgeRun
closed a b = cond (joins a b) [] (a ∷ [])

unfoldable pub grown : (a b : EdgeRun) → EdgeRun
grown a b = cond (joins a b) (longer a b.count) b

-- the same for cells that arrive one after the other
unfoldable pub walked : EdgeRun → List EdgeRun → List EdgeRun
walked a [] = []
walked a (b ∷ l) = closed a b ++ walked (grown a b) l

unfoldable pub pending : EdgeRun → List EdgeRun → EdgeRun
pending a [] = a
pending a (b ∷ l) = pending (grown a b) l

-- the cells that filter among those of the first edges
unfoldable pub pass_cells : Superblock → Pass → (outer inner : List ℕ) (edges : ℕ) → List EdgeRun
pass_cells s pass outer inner edges = select run_filters (grid (key_cell s pass outer inner) edges 8)

-- with the run that is left pending they are the joined runs
pub walked-joined : (a : EdgeRun) (l : List EdgeRun) → walked a l ++ pending a l ∷ [] ≡ joined_from a l
unfolding walked pending closed grown joined_from
walked-joined a [] = refl
walked-joined a (b ∷ l) = by (joins a b) (walked-joined (longer a b.count) l) (walked-joined b l)
  where
    by : (t : Bool) → walked (longer a b.count) l ++ pending (longer a b.count) l ∷ [] ≡ joined_from (longer a b.count) l
        → walked b l ++ pending b l ∷ [] ≡ joined_from b l
        → (cond t [] (a ∷ []) ++ walked (cond t (longer a b.count) b) l) ++ pending (cond t (longer a b.count) b) l ∷ []
        ≡ cond t (joined_from (longer a b.count) l) (a ∷ joined_from b l)
    by true e f = e
    by false e f = ap (λ (r : List EdgeRun). a ∷ r) f
