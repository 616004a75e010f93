-- The positions of the runs that filter are the decided ones of level above 0.
-- Assumes nothing.
use Rattle.std.specs.Prelude.{◌≡◌, Bool, true, false, cond}
use Rattle.std.proofs.Common.{◌∙◌, refl, sym, List, [], ◌∷◌, ◌++◌}
use mathlib.Core.List.{Memᴰ}
use Rattle.geometry.specs.declared.Pass.{Pass}
use Rattle.order.specs.Grid.{keep_if, select, select_append}
use Rattle.decided.specs.Decided.{Setting}
use Rattle.decided.specs.Runs.{run_filters, positions_of, all_positions}
use Rattle.decided.specs.declared.EdgeRun.{EdgeRun}
use Rattle.decided.specs.CellRunLaws.{Uniform, filtered, uniform_kept}

module _ (t : Setting) (pass : Pass) where
  pub kept_positions : (l : List EdgeRun) → ((a : EdgeRun) → Memᴰ a l → (Uniform t pass) a)
      → all_positions (select run_filters l) ≡ select (filtered t pass) (all_positions l)
  kept_positions [] u = refl
  kept_positions (a ∷ l) u =
      kept (run_filters a) (select run_filters l)
      ∙ (λ i. sym ((uniform_kept t pass) a (u a (Memᴰ.head refl))) i ++ kept_positions l (λ b m. u b (Memᴰ.tail m)) i)
      ∙ sym (select_append (filtered t pass) (positions_of a) (all_positions l))
    where
      kept : (b : Bool) (m : List EdgeRun) → all_positions (keep_if b a m) ≡ cond b (positions_of a) [] ++ all_positions m
      kept true m = refl
      kept false m = refl
