-- The runs that keys make are the runs of the pass (`key_runs_lem`), and keys are small (`keys_small`).
-- Assumes nothing.
use Rattle.std.specs.Prelude.{◌≡◌, Bool, ℕ, zero, suc, ◌+◌, ◌*◌, ◌/◌, ◌%◌, ◌≤◌, ◌<◌, ltb, get_or, replicate}
use Rattle.std.proofs.Common.{◌∙◌, get_or-take, zero-add, refl, sym, ap, true, false, cond, List, ◌++◌, arith, lt-ltb, eqb}
use Rattle.std.proofs.lemmas.List.{length-replicate}
use Rattle.std.proofs.lemmas.Grind.{common_steps}
use Rattle.base.specs.Filled.{filled, table, filled_at, take-filled}
use Rattle.decisions.specs.Decision.{Decision, decision}
use Rattle.decisions.specs.DecisionLaws.{decision_size, decision_level}
use Rattle.geometry.specs.CoordinatesLaws.{shr_small}
use Rattle.geometry.specs.declared.Pass.{Pass}
use Rattle.geometry.specs.declared.Superblock.{Superblock}
use Rattle.keys.specs.Keys.{key_of, key_at, key_in, keys_of}
use Rattle.order.specs.Grid.{keep_if, select, select_append, strip, strips, grid}
use Rattle.pass_edges.specs.PassEdges.{along_sub, cell_start, edge_count}
use Rattle.pass_edges.specs.PassEdgesLaws.{edge_count_small, edge_len_small, cell_first}
use Rattle.decided.specs.Runs.{level_of, cell_run, joined, run_filters, runs}
use Rattle.decided.specs.KeyRuns.{key_run, key_cell, key_runs}
use Rattle.keys.specs.Keyed.{Keyed, key_for}
use Rattle.decided.proofs.KeptLaws.{kept_grid}
use Rattle.decided.specs.RunsLaws.{Small}
use Rattle.decided.specs.declared.EdgeRun.{EdgeRun}

-- ---- cells that filter nothing may be left out

module _ (s : Superblock) (pass : Pass) where
  pub kept_keys : (outer inner : List ℕ) → select run_filters (joined (select run_filters (grid (key_cell s pass outer inner) (edge_count s pass) 8)))
      ≡ select run_filters (joined (grid (key_cell s pass outer inner) (edge_count s pass) 8))
  unfolding key_run
  kept_keys outer inner = kept_grid s pass (key_cell s pass outer inner) (λ e c. refl) (λ e c. refl) (λ e c. refl) (edge_count s pass)

  kept_decisions : (chroma : Bool) (cells : List ℕ) → select run_filters (joined (select run_filters (grid (cell_run s pass chroma cells) (edge_count s pass) 8)))
      ≡ select run_filters (joined (grid (cell_run s pass chroma cells) (edge_count s pass) 8))
  unfolding cell_run
  kept_decisions chroma cells = kept_grid s pass (cell_run s pass chroma cells) (λ e c. refl) (λ e c. refl) (λ e c. refl) (edge_count s pass)

pub run_small : (s : Superblock) (pass : Pass) (key edge c : ℕ) → key < 192 → edge < edge_count s pass → c < 8 → Small (key_run s pass key edge c)
unfolding key_run
run_small s pass key edge c h he hc =
    record {
      edge = omega (arith, edge_count_small s pass);
      first = omega (arith, cell_first s pass c hc, edge_len_small s pass);
      count = omega (arith, shr_small 8 (along_sub s pass));
      size = omega arith;
      level = omega arith;
    }

-- ---- the entries of a table

table_at : (f : ℕ → ℕ) (n k : ℕ) → k < n → get_or (table f n) k 0 ≡ f k
table_at f n k h =
    let size = length-replicate {A = ℕ} n 0 in
    let same = take-filled f n (replicate n 0) (omega arith) in
    let at = filled_at f 0 n (replicate n 0) k h (omega arith) in
    rw (← same, get_or-take n (filled f 0 n (replicate n 0)) k 0 h) (rw (zero-add k) at at)

-- ---- a key's level is the decision's, and its size where that filters

module _ (d : Decision) (size : d.size ≤ 2) (level : d.level ≤ 63) where
  pub key_level : key_of d % 64 ≡ level_of d
  unfolding key_of
  key_level = grind (arith, common_steps)

  pub key_size : 0 < level_of d → key_of d / 64 ≡ d.size
  unfolding key_of
  key_size h = grind (arith, common_steps)

  key_small : key_of d < 192
  unfolding key_of
  key_small = grind (arith, common_steps)

module _ (s : Superblock) (pass : Pass) (chroma : Bool) (cells : List ℕ) where
  at_small : (edge c : ℕ) → key_at s pass chroma cells edge c < 192
  unfolding key_at
  at_small edge c = key_small _ (decision_size s pass chroma cells edge (cell_start s pass c)) (decision_level s pass chroma cells edge (cell_start s pass c))

  list_small : (parity k : ℕ) → k < 64 → get_or (keys_of s pass chroma cells parity) k 0 < 192
  unfolding keys_of key_in
  list_small parity k h = rw (table_at (key_in s pass chroma cells parity) 64 k h) (by (ltb (2 * (k / 8) + parity) (edge_count s pass)))
    where
      by : (b : Bool) → cond b (key_at s pass chroma cells (2 * (k / 8) + parity) (k % 8)) 0 < 192
      by true = at_small (2 * (k / 8) + parity) (k % 8)
      by false = omega arith

  -- cell c of edge 2 * e + parity
  list_key : (parity e c : ℕ) → 2 * e + parity < edge_count s pass → c < 8
      → get_or (keys_of s pass chroma cells parity) (8 * e + c) 0 ≡ key_at s pass chroma cells (2 * e + parity) c
  unfolding keys_of key_in
  list_key parity e c h k =
      let row : (8 * e + c) / 8 ≡ e = omega arith in
      let column : (8 * e + c) % 8 ≡ c = omega arith in
      table_at (key_in s pass chroma cells parity) 64 (8 * e + c) (omega (arith, edge_count_small s pass)) ∙ (rw (row, column, lt-ltb (2 * e + parity) (edge_count s pass) h))

  module _ (outer inner : List ℕ) (even : outer ≡ keys_of s pass chroma cells 0) (odd : inner ≡ keys_of s pass chroma cells 1) where
    pub keys_small : Keyed outer inner
    keys_small = record { even = λ k h. rw even (list_small 0 k h); odd = λ k h. rw odd (list_small 1 k h) }

    pub key_for_lem : (edge c : ℕ) → edge < edge_count s pass → c < 8 → key_for outer inner edge c ≡ key_at s pass chroma cells edge c
    unfolding key_for
    key_for_lem edge c h k = by (eqb (edge % 2) 0) refl
      where
        by : (b : Bool) → eqb (edge % 2) 0 ≡ b → cond b (get_or outer (8 * (edge / 2) + c) 0) (get_or inner (8 * (edge / 2) + c) 0) ≡ key_at s pass chroma cells edge c
        by true e = let whole : 2 * (edge / 2) + 0 ≡ edge = grind (arith, common_steps) in rw even (rw whole at (list_key 0 (edge / 2) c (rw whole h) k))
        by false e = let half : 2 * (edge / 2) + 1 ≡ edge = grind (arith, common_steps) in rw odd (rw half at (list_key 1 (edge / 2) c (rw half h) k))

    -- ---- cell by cell

    cell_level : (edge c : ℕ) → edge < edge_count s pass → c < 8 → (key_cell s pass outer inner edge c).level ≡ (cell_run s pass chroma cells edge c).level
    unfolding key_run cell_run key_at
    cell_level edge c h k =
        let i = cell_start s pass c in
        rw (key_for_lem edge c h k) (key_level (decision s pass chroma cells edge i) (decision_size s pass chroma cells edge i) (decision_level s pass chroma cells edge i))

    cell_same : (edge c : ℕ) → edge < edge_count s pass → c < 8 → 0 < (cell_run s pass chroma cells edge c).level → key_cell s pass outer inner edge c ≡ cell_run s pass chroma cells edge c
    unfolding key_run cell_run key_at
    cell_same edge c h k on =
        let i = cell_start s pass c in
        let d = decision s pass chroma cells edge i in
        rw (key_for_lem edge c h k, key_level d (decision_size s pass chroma cells edge i) (decision_level s pass chroma cells edge i), key_size d (decision_size s pass chroma cells edge i) (decision_level s pass chroma cells edge i) on)

    -- ---- so the cells that filter are the same, and so are the runs

    kept_cell : (edge c : ℕ) → edge < edge_count s pass → c < 8 → {l m : List EdgeRun} → l ≡ m
        → keep_if (run_filters (key_cell s pass outer inner edge c)) (key_cell s pass outer inner edge c) l
        ≡ keep_if (run_filters (cell_run s pass chroma cells edge c)) (cell_run s pass chroma cells edge c) m
    kept_cell edge c h k {l} {m} e =
        let level = cell_level edge c h k in
        let same = cell_same edge c h k in
        grind (arith, common_steps)

    kept_strip : (edge c n : ℕ) → edge < edge_count s pass → c + n ≤ 8
        → select run_filters (strip (key_cell s pass outer inner) edge c n) ≡ select run_filters (strip (cell_run s pass chroma cells) edge c n)
    kept_strip edge c zero h k = refl
    kept_strip edge c (suc n) h k = kept_cell edge c h (omega arith) (kept_strip edge (suc c) n h (omega arith))

    kept_strips : (edge n : ℕ) → edge + n ≤ edge_count s pass
        → select run_filters (strips (key_cell s pass outer inner) edge n 8) ≡ select run_filters (strips (cell_run s pass chroma cells) edge n 8)
    kept_strips edge zero h = refl
    kept_strips edge (suc n) h =
        select_append run_filters (strip (key_cell s pass outer inner) edge 0 8) (strips (key_cell s pass outer inner) (suc edge) n 8)
        ∙ (λ i. kept_strip edge 0 8 (omega arith) (omega arith) i ++ kept_strips (suc edge) n (omega arith) i)
        ∙ sym (select_append run_filters (strip (cell_run s pass chroma cells) edge 0 8) (strips (cell_run s pass chroma cells) (suc edge) n 8))

    pub key_runs_lem : key_runs s pass outer inner ≡ runs s pass chroma cells
    unfolding key_runs runs
    key_runs_lem =
        sym (kept_keys s pass outer inner)
        ∙ ap (λ (l : List EdgeRun). select run_filters (joined l)) (kept_strips 0 (edge_count s pass) (omega arith))
        ∙ kept_decisions s pass chroma cells
