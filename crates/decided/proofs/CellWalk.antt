-- A walk over the cells of a pass gives its runs.
-- Assumes nothing.
use Rattle.std.specs.Prelude.{◌≡◌, ℕ, List, [], ◌∷◌, ◌++◌}
use Rattle.std.proofs.Common.{ap, ◌∙◌}
use Rattle.geometry.specs.declared.Pass.{Pass}
use Rattle.geometry.specs.declared.Superblock.{Superblock}
use Rattle.order.specs.Grid.{select, grid}
use Rattle.pass_edges.specs.PassEdges.{edge_count}
use Rattle.decided.proofs.KeptLaws.{silent}
use Rattle.decided.specs.KeyRuns.{key_cell, key_runs}
use Rattle.decided.proofs.KeyRunLaws.{kept_keys}
use Rattle.decided.specs.Runs.{run_filters}
use Rattle.decided.specs.declared.EdgeRun.{EdgeRun}
use Rattle.decided.specs.CellWalk.{pass_cells, pending, walked, walked-joined}

module _ (s : Superblock) (pass : Pass) (outer inner : List ℕ) where
  -- the runs that a walk over all of them closes, and the one that it leaves: those that filter are the runs of the pass
  pub walked-runs : (a : EdgeRun) → a.level ≡ 0 →
      let l = (pass_cells s pass outer inner) (edge_count s pass) in
      select run_filters (walked a l ++ pending a l ∷ []) ≡ key_runs s pass outer inner
  unfolding pass_cells key_runs
  walked-runs a e =
      let l = select run_filters (grid (key_cell s pass outer inner) (edge_count s pass) 8) in
      ap (select run_filters) (walked-joined a l) ∙ silent a l e ∙ kept_keys s pass outer inner
