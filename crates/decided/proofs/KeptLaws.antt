-- Cells that filter nothing may be left out before cells are joined: the runs that filter stay the same (`kept_grid`).
-- Assumes nothing.
use Rattle.std.specs.Prelude.{◌≡◌, Bool, cond, ℕ, ◌+◌, ◌*◌, ◌≤◌, ◌<◌}
use Rattle.std.proofs.Common.{◌∙◌, arith, ltb-true, ltb-false, refl, sym, ap, true, false, List, [], ◌∷◌}
use Rattle.std.proofs.lemmas.Grind.{common_steps}
use mathlib.Core.List.{Memᴰ}
use Rattle.geometry.specs.Coordinates.{shr}
use Rattle.geometry.specs.declared.Pass.{Pass}
use Rattle.geometry.specs.declared.Superblock.{Superblock}
use Rattle.order.specs.Grid.{keep_if, select, select_mem, grid}
use Rattle.order.proofs.Grid.{grid_all, grid_before}
use Rattle.order.specs.Order.{Before, Before-now, Before-later}
use Rattle.pass_edges.specs.PassEdges.{along_sub, cell_start, cell_len}
use Rattle.decided.specs.JoinLaws.{Joins, joins_true}
use Rattle.decided.specs.Runs.{joins, longer, joined_from, joined, run_filters}
use Rattle.decided.specs.declared.EdgeRun.{EdgeRun}

-- ---- a run of level 0 leaves no trace among those that filter

pub silent : (a : EdgeRun) (l : List EdgeRun) → a.level ≡ 0 → select run_filters (joined_from a l) ≡ select run_filters (joined l)
unfolding joined_from
silent a [] e = rw e
silent a (b ∷ l) e = by (joins a b) refl (silent (longer a b.count) l e) (silent b l)
  where
    by : (t : Bool) → joins a b ≡ t → select run_filters (joined_from (longer a b.count) l) ≡ select run_filters (joined l)
        → (b.level ≡ 0 → select run_filters (joined_from b l) ≡ select run_filters (joined l))
        → select run_filters (cond t (joined_from (longer a b.count) l) (a ∷ joined_from b l)) ≡ select run_filters (joined_from b l)
    by true j together alone = together ∙ sym (alone (sym (joins_true a b j).level ∙ e))
    by false j together alone = rw e

-- ---- runs that stand one behind the other

-- y starts where x ends, or behind that
pub record Next (x y : EdgeRun) : Type 0 where
  pub edge : x.edge ≤ y.edge
  pub first : x.edge ≡ y.edge → x.first + x.count ≤ y.first

apart_joins : (a b : EdgeRun) → (Joins a b → ⊥) → joins a b ≡ false
apart_joins a b n = grind (arith, common_steps, joins_true)

-- over the cell between them two runs are not joined
next_gap : (a b x : EdgeRun) → Next a b → 0 < b.count → Next b x → Joins a x → ⊥
next_gap a b x p some q j =
    let e : a.edge ≡ b.edge = omega (arith, p.edge, q.edge, j.edge) in
    let f : b.edge ≡ x.edge = omega (arith, e, j.edge) in
    omega (arith, p.first e, q.first f, j.first)

next_longer : (a b x : EdgeRun) → Joins a b → Next b x → Next (longer a b.count) x
next_longer a b x j q = record {
  edge = omega (arith, j.edge, q.edge);
  first = λ e. let f : b.edge ≡ x.edge = omega (arith, e, j.edge) in omega (arith, q.first f, j.first);
}

alone : (a : EdgeRun) (l : List EdgeRun) → ((x : EdgeRun) → Memᴰ x l → joins a x ≡ false) → joined_from a l ≡ a ∷ joined l
unfolding joined_from
alone a [] h = refl
alone a (x ∷ l) h = rw (h x (Memᴰ.head refl))

-- the cells of l that filter, joined by themselves, and behind a run that filters
record Kept (l : List EdgeRun) : Type 0 where
  whole : select run_filters (joined (select run_filters l)) ≡ select run_filters (joined l)
  behind : (a : EdgeRun) → 0 < a.level → ((x : EdgeRun) → Memᴰ x l → Next a x)
      → select run_filters (joined_from a (select run_filters l)) ≡ select run_filters (joined_from a l)

module _ (b : EdgeRun) (l : List EdgeRun) (some : 0 < b.count) (next : (x : EdgeRun) → Memᴰ x l → Next b x) (ih : Kept l) where
  kept_on : 0 < b.level → (a : EdgeRun) → 0 < a.level → select run_filters (joined_from a (b ∷ select run_filters l)) ≡ select run_filters (joined_from a (b ∷ l))
  unfolding joined_from
  kept_on on a h = by (joins a b) refl
    where
      by : (t : Bool) → joins a b ≡ t
          → select run_filters (cond t (joined_from (longer a b.count) (select run_filters l)) (a ∷ joined_from b (select run_filters l)))
          ≡ select run_filters (cond t (joined_from (longer a b.count) l) (a ∷ joined_from b l))
      by true j = ih.behind (longer a b.count) h (λ x m. next_longer a b x (joins_true a b j) (next x m))
      by false j = ap (keep_if (run_filters a) a) (ih.behind b on next)

  kept_off : b.level ≡ 0 → (a : EdgeRun) → 0 < a.level → Next a b → select run_filters (joined_from a (select run_filters l)) ≡ select run_filters (joined_from a (b ∷ l))
  unfolding joined_from
  kept_off off a h n =
      let level : joins a b ≡ false = apart_joins a b (λ j. omega (arith, j.level)) in
      rw (level, alone a (select run_filters l) (λ x m. apart_joins a x (next_gap a b x n some (next x (select_mem run_filters l m)))))
      (ap (keep_if (run_filters a) a) (ih.whole ∙ sym (silent b l off)))

  kept_more : (t : Bool) → run_filters b ≡ t
      → (select run_filters (joined (keep_if t b (select run_filters l))) ≡ select run_filters (joined (b ∷ l)))
      × ((a : EdgeRun) → 0 < a.level → Next a b → select run_filters (joined_from a (keep_if t b (select run_filters l))) ≡ select run_filters (joined_from a (b ∷ l)))
  kept_more true e =
      let on = ltb-true 0 b.level e in
      (ih.behind b on next, λ a h n. kept_on on a h)
  kept_more false e =
      let least = ltb-false 0 b.level e in
      let off : b.level ≡ 0 = omega arith in
      (ih.whole ∙ sym (silent b l off), λ a h n. kept_off off a h n)

kept : (l : List EdgeRun) → ((x : EdgeRun) → Memᴰ x l → 0 < x.count) → ((x y : EdgeRun) → Before x y l → Next x y) → Kept l
kept [] some next = record { whole = refl; behind = λ a h n. refl }
kept (b ∷ l) some next =
    let ih = kept l (λ x m. some x (Memᴰ.tail m)) (λ x y r. next x y (Before-later r)) in
    let more = kept_more b l (some b (Memᴰ.head refl)) (λ x m. next b x (Before-now refl m)) ih (run_filters b) refl in
    record { whole = more.0; behind = λ a h n. more.1 a h (n b (Memᴰ.head refl)) }

-- ---- the cells of a pass

later : (i j : ℕ) (sub : Bool) → i < j → shr (8 * i) sub + shr 8 sub ≤ shr (8 * j) sub
later i j sub h = grind (arith, common_steps)

some_long : (sub : Bool) → 0 < shr 8 sub
some_long sub = grind (arith, common_steps)

-- however their sizes and levels are made
module _ (s : Superblock) (pass : Pass) (mk : (edge c : ℕ) → EdgeRun) (edge : (e c : ℕ) → (mk e c).edge ≡ e)
    (first : (e c : ℕ) → (mk e c).first ≡ cell_start s pass c) (count : (e c : ℕ) → (mk e c).count ≡ cell_len s pass) where
  pub kept_grid : (n : ℕ) → select run_filters (joined (select run_filters (grid mk n 8))) ≡ select run_filters (joined (grid mk n 8))
  kept_grid n = (kept (grid mk n 8) some (λ x y r. grid_before mk Next along down n 8 r)).whole
    where
      some : (x : EdgeRun) → Memᴰ x (grid mk n 8) → 0 < x.count
      some = grid_all mk (λ (a : EdgeRun). 0 < a.count) n 8 (λ e c h k. rw (count e c) (some_long (along_sub s pass)))

      along : (e i j : ℕ) → i < j → Next (mk e i) (mk e j)
      along e i j h = record {
        edge = omega (arith, edge e i, edge e j);
        first = λ same. rw (first e i, first e j, count e i) (later i j (along_sub s pass) h);
      }

      down : (e f i j : ℕ) → e < f → Next (mk e i) (mk f j)
      down e f i j h = record {
        edge = omega (arith, edge e i, edge f j);
        first = λ same. absurd (omega (arith, edge e i, edge f j, same));
      }
