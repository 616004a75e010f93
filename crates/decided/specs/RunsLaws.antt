-- Laws of the runs of a pass, for their users: how large they are, that they have exactly the decided positions that filter, in order
-- (`runs-positions`), each with the run's size and level (`runs_alike`), and that each run is as long as it may be (`runs_longest`).
-- Assumes nothing.
use Rattle.std.specs.Prelude.{◌≡◌, true, ◌&&◌, ℕ, ◌+◌, ◌≤◌, ◌<◌, ltb, length}
use Rattle.std.proofs.Common.{◌∙◌, arith, sym, ap, Bool, List, ltb→lt}
use Rattle.std.proofs.lemmas.Grind.{common_steps}
use mathlib.Core.List.{Memᴰ}
use Rattle.decisions.specs.Decision.{Decision, decision}
use Rattle.decisions.specs.DecisionLaws.{decision_size, decision_level}
use Rattle.geometry.specs.declared.Pass.{Pass}
use Rattle.geometry.specs.declared.Superblock.{Superblock}
use Rattle.order.specs.Grid.{select_mem, select_passes, select-length}
use Rattle.order.proofs.Grid.{grid-length}
use Rattle.pass_edges.specs.PassEdges.{along_sub, cell_start, edge_count, edge_len}
use Rattle.pass_edges.specs.PassEdgesLaws.{edge_count_small, edge_len_small, cell_first}
use Rattle.geometry.specs.CoordinatesLaws.{shr_small}
use Rattle.decided.specs.Decided.{position, Setting, decision_at, filters}
use Rattle.decided.specs.Runs.{level_of, cell_run, longer, joined, run_filters, runs}
use Rattle.decided.specs.JoinLaws.{Joins, Behind, joined_length}
use Rattle.decided.specs.CellRunLaws.{cell_at, cells_of, joined_cells, whole_cells, whole_room}
use Rattle.decided.specs.CellRunLaws.{first_says}
use Rattle.decided.specs.declared.EdgeRun.{EdgeRun}

-- how large the numbers of a run are
pub record Small (a : EdgeRun) : Type 0 where
  pub edge : a.edge < 16
  pub first : a.first < 64
  pub count : a.count ≤ 16
  pub size : a.size ≤ 2
  pub level : a.level ≤ 63

-- a position is decided, with the size and the level of a run
pub record Alike (a : EdgeRun) (d : Decision) : Type 0 where
  pub decided : d.decided ≡ true
  pub size : d.size ≡ a.size
  pub level : d.level ≡ a.level

-- a run filters, and has 1 to 16 positions; one with fewer than 16 ends with its edge, or before a position that is not alike
pub record Longest (t : Setting) (pass : Pass) (a : EdgeRun) : Type 0 where
  pub level : 0 < a.level
  pub some : 0 < a.count
  pub most : a.count ≤ 16
  pub stops : a.count < 16 → a.first + a.count < edge_len t.superblock pass
      → Alike a (decision_at t pass (position a.edge (a.first + a.count))) → ⊥

-- ---- what is small

level_small : (d : Decision) → d.level ≤ 63 → level_of d ≤ 63
level_small d h = grind (arith, common_steps)

cell_small : (s : Superblock) (pass : Pass) (chroma : Bool) (cells : List ℕ) (edge c : ℕ) → edge < edge_count s pass → c < 8
    → Small (cell_run s pass chroma cells edge c)
unfolding cell_run
cell_small s pass chroma cells edge c he hc =
    let i = cell_start s pass c in
    record {
      edge = omega (arith, edge_count_small s pass);
      first = omega (arith, cell_first s pass c hc, edge_len_small s pass);
      count = omega (arith, shr_small 8 (along_sub s pass));
      size = decision_size s pass chroma cells edge i;
      level = level_small (decision s pass chroma cells edge i) (decision_level s pass chroma cells edge i);
    }

pub longer_small : (a b : EdgeRun) → Joins a b → Small a → Small b → Small (longer a b.count)
longer_small a b j p q = record { edge = p.edge; first = p.first; count = j.count; size = p.size; level = p.level }

-- ---- levels above 0

pub level_filters : (d : Decision) → ltb 0 (level_of d) ≡ (d.decided && filters d)
level_filters d = grind (arith, common_steps)

pub level_decided : (d : Decision) (n : ℕ) → level_of d ≡ n → 0 < n → (d.decided ≡ true) × (d.level ≡ n)
level_decided d n e h = grind (arith, common_steps)

module _ (t : Setting) (pass : Pass) where
  abbrev pub runs_of : List EdgeRun
  runs_of = runs t.superblock pass t.chroma t.cells

  -- they are among the joined cells, and their levels are above 0
  pub among : (a : EdgeRun) → Memᴰ a runs_of → Memᴰ a (joined (cells_of t pass))
  unfolding runs
  among a m = select_mem run_filters (joined (cells_of t pass)) m

  pub above : (a : EdgeRun) → Memᴰ a runs_of → 0 < a.level
  unfolding runs
  above a m = ltb→lt 0 a.level (select_passes run_filters (joined (cells_of t pass)) m)

  pub runs_small : (a : EdgeRun) → Memᴰ a runs_of → Small a
  runs_small a m = joined_cells t pass Small longer_small (cell_small t.superblock pass t.chroma t.cells) a (among a m)

  pub runs-count : length runs_of ≤ 128
  unfolding runs
  runs-count =
      let edges = edge_count t.superblock pass in
      let joins = joined_length (cells_of t pass) in
      let cells = grid-length (cell_at t pass) edges 8 in
      omega (arith, select-length run_filters (joined (cells_of t pass)), edge_count_small t.superblock pass)

  -- ---- each run is as long as it may be

  abbrev pub behind : EdgeRun → Decision
  behind a = decision_at t pass (position a.edge (a.first + a.count))

  -- what goes on behind a shorter run could be joined if it were alike
  pub alike_joins : (a : EdgeRun) → Memᴰ a runs_of → a.count < 16 → (b : Behind (cells_of t pass) a) → Alike a (behind a) → Joins a b.next
  alike_joins a m h b l =
      let f = first_says t pass b.next b.among in
      let same : behind a ≡ decision_at t pass (position b.next.edge b.next.first) = λ i. decision_at t pass (position (b.edge i) (b.first i)) in
      let on : a.level ≡ level_of (behind a) = rw l.decided (sym l.level) in
      record {
        edge = b.edge;
        first = b.first;
        size = sym l.size ∙ ap (λ (d : Decision). d.size) same ∙ f.1.size;
        level = on ∙ ap level_of same ∙ f.1.level;
        count = rw f.0 (whole_room (along_sub t.superblock pass) a.count (whole_cells t pass a (among a m)).1 h);
      }
