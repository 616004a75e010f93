-- The cells of a pass that filter, joined, are its runs (`all_runs`), at most 128 (`few_runs`).
-- Assumes nothing.
use Rattle.std.specs.Prelude.{◌≡◌, refl, ℕ, zero, suc, ◌+◌, ◌*◌, ◌≤◌, List, ◌∷◌, ◌++◌, length}
use Rattle.std.proofs.Common.{sym, ap, ◌∙◌, arith}
use Rattle.std.proofs.lemmas.Grind.{common_steps}
use Rattle.geometry.specs.declared.Pass.{Pass}
use Rattle.geometry.specs.declared.Superblock.{Superblock}
use Rattle.order.specs.Grid.{grid, select, select-length, strip, strips, strip_split}
use Rattle.order.proofs.Grid.{grid-length}
use Rattle.pass_edges.specs.PassEdges.{edge_count}
use Rattle.pass_edges.specs.PassEdgesLaws.{edge_count_small}
use Rattle.decided.specs.CellsLeft.{nth_cell, cells_in}
use Rattle.decided.specs.JoinLaws.{joined_length}
use Rattle.decided.specs.KeyRuns.{key_cell, key_runs}
use Rattle.decided.specs.Runs.{joined, run_filters}
use Rattle.decided.specs.declared.EdgeRun.{EdgeRun}
use Rattle.decided.proofs.KeyRunLaws.{kept_keys}

module _ (s : Superblock) (pass : Pass) (outer inner : List ℕ) where
  -- cell c of an edge
  same_cell : (edge c k : ℕ) → c ≤ 7 → k ≡ 8 * edge + c → key_cell s pass outer inner edge c ≡ nth_cell s pass outer inner 0 k
  same_cell edge c k h e = grind (arith, common_steps)

  edge_strip : (edge c n k : ℕ) → c + n ≤ 8 → k ≡ 8 * edge + c → strip (key_cell s pass outer inner) edge c n ≡ strip (nth_cell s pass outer inner) 0 k n
  edge_strip edge c zero k h e = refl
  edge_strip edge c (suc n) k h e = λ i. same_cell edge c k (omega arith) e i ∷ edge_strip edge (suc c) n (suc k) (omega arith) (omega arith) i

  edge_strips : (edge n k : ℕ) → k ≡ 8 * edge → strips (key_cell s pass outer inner) edge n 8 ≡ strip (nth_cell s pass outer inner) 0 k (8 * n)
  edge_strips edge zero k e = refl
  edge_strips edge (suc n) k e =
      let more : 8 * suc n ≡ 8 + 8 * n = omega arith in
      (λ i. edge_strip edge 0 8 k (omega arith) (omega arith) i ++ edge_strips (suc edge) n (k + 8) (omega arith) i)
      ∙ sym (rw more (strip_split (nth_cell s pass outer inner) 0 k 8 (8 * n) (k + 8) refl))

  pub all_runs : (l : List EdgeRun) → l ≡ cells_in s pass outer inner 0 (8 * edge_count s pass) → select run_filters (joined l) ≡ key_runs s pass outer inner
  unfolding cells_in key_runs
  all_runs l is =
      ap (λ (m : List EdgeRun). select run_filters (joined m)) (is ∙ ap (select run_filters) (sym (edge_strips 0 (edge_count s pass) 0 refl)))
      ∙ kept_keys s pass outer inner

  pub few_runs : length (key_runs s pass outer inner) ≤ 128
  unfolding key_runs
  few_runs =
      let cell = key_cell s pass outer inner in
      let edges = edge_count s pass in
      omega (arith, select-length run_filters (joined (grid cell edges 8)), joined_length (grid cell edges 8), grid-length cell edges 8, edge_count_small s pass)
