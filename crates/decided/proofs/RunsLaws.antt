-- The runs of a pass: their positions (`runs-positions`), size and level (`runs_alike`), and length (`runs_longest`).
-- Assumes nothing.
use Rattle.std.specs.Prelude.{◌≡◌, ◌&&◌, ◌+◌, ◌<◌}
use Rattle.std.proofs.Common.{◌∙◌, inl, inr, arith, sym, ap, Bool}
use mathlib.Core.List.{Memᴰ}
use Rattle.geometry.specs.declared.Pass.{Pass}
use Rattle.order.specs.Grid.{select, select_same, select-select, grid}
use Rattle.pass_edges.specs.PassEdges.{edge_count, edge_len}
use Rattle.decided.specs.Decided.{Position, position, Setting, decision_at, is_decided, decided, filters}
use Rattle.decided.specs.Runs.{joined, runs, positions_of, all_positions}
use Rattle.decided.specs.JoinLaws.{Stopped, joined-positions, joined_stops}
use Rattle.decided.specs.CellRunLaws.{cells_of, whole_cells, cells_positions, cells_chain}
use Rattle.decided.specs.CellRunLaws.{joined_uniform, filtered}
use Rattle.decided.proofs.CellRunLaws.{kept_positions}
use Rattle.decided.specs.declared.EdgeRun.{EdgeRun}
use Rattle.decided.specs.RunsLaws.{Alike, Longest, above, alike_joins, among, behind, level_decided, level_filters, runs_of, runs_small}

module _ (t : Setting) (pass : Pass) where
  -- the positions of the runs, one run behind the other, are the decided positions with a level above 0
  pub runs-positions : all_positions (runs_of t pass) ≡ select (λ p. filters (decision_at t pass p)) (decided t pass)
  unfolding runs decided is_decided
  runs-positions =
      let all = grid position (edge_count t.superblock pass) (edge_len t.superblock pass) in
      let keeps : Position → Bool = λ p. filters (decision_at t pass p) in
      kept_positions t pass (joined (cells_of t pass)) (joined_uniform t pass)
      ∙ ap (select (filtered t pass)) (joined-positions (cells_of t pass) ∙ cells_positions t pass)
      ∙ select_same (filtered t pass) (λ p. is_decided t pass p && keeps p) all (λ p m. level_filters (decision_at t pass p))
      ∙ sym (select-select keeps (is_decided t pass) all)

  -- each with the run's size and level
  pub runs_alike : (a : EdgeRun) → Memᴰ a (runs_of t pass) → (p : Position) → Memᴰ p (positions_of a) → Alike a (decision_at t pass p)
  runs_alike a m p k =
      let says = joined_uniform t pass a ((among t pass) a m) p k in
      let d = level_decided (decision_at t pass p) a.level says.level ((above t pass) a m) in
      record { decided = d.0; size = says.size; level = d.1 }

  pub runs_longest : (a : EdgeRun) → Memᴰ a (runs_of t pass) → Longest t pass a
  runs_longest a m =
      record {
        level = (above t pass) a m;
        some = (whole_cells t pass a ((among t pass) a m)).0;
        most = ((runs_small t pass) a m).count;
        stops = λ h k l. by h k l (joined_stops (cells_of t pass) (cells_chain t pass) a ((among t pass) a m));
      }
    where
      by : a.count < 16 → a.first + a.count < edge_len t.superblock pass → Alike a ((behind t pass) a)
          → Stopped (edge_len t.superblock pass) (cells_of t pass) a → ⊥
      by h k l (inl e) = omega arith
      by h k l (inr b) = b.apart ((alike_joins t pass) a m h b l)
