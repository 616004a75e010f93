-- A walk over the cells of a pass that filter, one after the other: which are still to come.
-- Assumes nothing.
use Rattle.std.specs.Prelude.{refl, ◌≡◌, ℕ, suc, ◌+◌, ◌-◌, ◌*◌, ◌/◌, ◌%◌, ◌≤◌, ◌<◌, List, [], ◌∷◌, Option, IfSome}
use Rattle.std.proofs.Common.{add-one, arith, lt-ltb}
use Rattle.std.proofs.lemmas.Grind.{common_steps}
use Rattle.std.specs.Iterator.{YieldsFirstBy}
use Rattle.geometry.specs.declared.Pass.{Pass}
use Rattle.geometry.specs.declared.Superblock.{Superblock}
use Rattle.order.specs.Grid.{select, strip}
use Rattle.pass_edges.specs.PassEdges.{edge_count}
use Rattle.decided.specs.KeyRuns.{key_cell, key_run}
use Rattle.keys.specs.Keyed.{key_for}
use Rattle.decided.specs.Runs.{run_filters}
use Rattle.decided.specs.declared.EdgeRun.{EdgeRun}
use Rattle.decided.specs.declared.key_cells.KeyCells.{KeyCells}
use Rattle.decided.specs.declared.small_run.SmallRun.{SmallRun}

module _ (s : Superblock) (pass : Pass) (outer inner : List ℕ) where
  -- cell k of a pass, edge by edge
  abbrev pub nth_cell : (e k : ℕ) → EdgeRun
  nth_cell e k = key_cell s pass outer inner (k / 8) (k % 8)

  -- those that filter among n cells from cell k on
  unfoldable pub cells_in : (k n : ℕ) → List EdgeRun
  cells_in k n = select run_filters (strip nth_cell 0 k n)

  pub cells_end : (k n : ℕ) → n ≤ k → cells_in k (n - k) ≡ []
  unfolding cells_in
  cells_end k n h = grind (arith, common_steps)

  -- cell k by its key, and those behind it
  module _ {k n key : ℕ} (is : key ≡ key_for outer inner (k / 8) (k % 8)) (more : k < n) where
    step : n - k ≡ suc (n - (k + 1))
    step = omega arith

    pub cells_off : key % 64 ≡ 0 → cells_in k (n - k) ≡ cells_in (k + 1) (n - (k + 1))
    unfolding cells_in key_run
    cells_off off = rw (step, add-one k, ← is, off) refl

    pub cells_on : {a : EdgeRun} → 0 < key % 64 → a ≡ key_run s pass key (k / 8) (k % 8) → cells_in k (n - k) ≡ a ∷ cells_in (k + 1) (n - (k + 1))
    unfolding cells_in key_run
    cells_on on e = rw (step, add-one k, ← is, lt-ltb 0 (key % 64) on, e) refl

-- the cells that were not walked
abbrev pub cells_left : KeyCells → List EdgeRun
cells_left w = cells_in w.s w.pass w.keys.now.outer w.keys.now.inner w.cells.start (w.cells.end - w.cells.start)

-- the walk goes over the pass
pub record Walking (w : KeyCells) : Type 0 where
  pub all : w.cells.end ≡ 8 * edge_count w.s w.pass
  pub within : w.cells.start ≤ w.cells.end

-- a cell that is given filters; behind the last, too, the walk may go on
abbrev pub GivesCell : KeyCells → Option SmallRun → KeyCells → Type 0
GivesCell w r v = YieldsFirstBy (λ a. a.of) cells_left w r v × Walking v × IfSome r (λ a. 0 < a.of.level)
