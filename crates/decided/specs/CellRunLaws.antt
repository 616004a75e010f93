-- Laws of the cells of a pass as runs, and of what joining makes of them: which positions they have, and how these are decided.
-- Assumes nothing.
use Rattle.std.specs.Prelude.{◌≡◌, ◌⊎◌, Bool, cond, ltb}
use Rattle.std.proofs.Common.{◌∙◌, inl, inr, refl, sym, ap, List, [], ◌++◌, ℕ, zero, suc, ◌+◌, ◌-◌, ◌*◌, ◌%◌, ◌≤◌, ◌<◌, arith}
use Rattle.std.proofs.lemmas.Grind.{common_steps}
use mathlib.Core.List.Memᴰ
use mathlib.Core.List.{Memᴰ}
use Rattle.decisions.specs.DecisionLaws.{same_decision}
use Rattle.decisions.specs.Decision.{Decision}
use Rattle.geometry.specs.Coordinates.{shr}
use Rattle.geometry.specs.declared.Pass.{Pass}
use Rattle.order.specs.Grid.{select, select_same, select_const, strip, strips, grid, strip_mem, strip_split}
use Rattle.order.proofs.Grid.{grid_all}
use Rattle.pass_edges.specs.PassEdges.{along_sub, cell_start, cell_len, edge_count, edge_len}
use Rattle.pass_edges.specs.PassEdgesLaws.{edge_len_cells}
use Rattle.decided.specs.Decided.{Position, position, Setting, decision_at}
use Rattle.decided.specs.Runs.{level_of, cell_run, longer, joined, run_filters, positions_of, all_positions}
use Rattle.decided.specs.JoinLaws.{Joins, Chain, Chain-none, Chain-ends, Chain-goes, joined_all, positions_append, longer-positions}
use Rattle.decided.specs.declared.EdgeRun.{EdgeRun}

-- ---- where cells start along an edge, and how long they are

start_none : (sub : Bool) → shr (8 * 0) sub ≡ 0
start_none sub = grind (arith, common_steps)

start_next : (c : ℕ) (sub : Bool) → shr (8 * suc c) sub ≡ shr (8 * c) sub + shr 8 sub
start_next c sub = grind (arith, common_steps)

some_cell : (sub : Bool) → 0 < shr 8 sub
some_cell sub = grind (arith, common_steps)

whole_cell : (sub : Bool) → shr 8 sub % shr 8 sub ≡ 0
whole_cell sub = grind (arith, common_steps)

whole_more : (sub : Bool) (m n : ℕ) → m % shr 8 sub ≡ 0 → n % shr 8 sub ≡ 0 → (m + n) % shr 8 sub ≡ 0
whole_more sub m n g h = grind (arith, common_steps)

-- below 16 there is room for one more
pub whole_room : (sub : Bool) (n : ℕ) → n % shr 8 sub ≡ 0 → n < 16 → n + shr 8 sub ≤ 16
whole_room sub n h l = grind (arith, common_steps)

-- what a run of size n and level m says of the decision at each of its positions
pub record Says (n m : ℕ) (d : Decision) : Type 0 where
  pub size : d.size ≡ n
  pub level : level_of d ≡ m

module _ (t : Setting) (pass : Pass) where
  -- the cells of the pass as runs
  abbrev pub cell_at : (edge c : ℕ) → EdgeRun
  cell_at = cell_run t.superblock pass t.chroma t.cells

  abbrev pub cells_of : List EdgeRun
  cells_of = grid cell_at (edge_count t.superblock pass) 8

  abbrev start : ℕ → ℕ
  start c = cell_start t.superblock pass c

  abbrev len : ℕ
  len = cell_len t.superblock pass

  abbrev edge_end : ℕ
  edge_end = edge_len t.superblock pass

  abbrev along : Bool
  along = along_sub t.superblock pass

  -- what holds of cells, and of a run that two make if it holds of both, holds of all that are joined
  pub joined_cells : (P : EdgeRun → Type 0) → ((a b : EdgeRun) → Joins a b → P a → P b → P (longer a b.count))
      → ((edge c : ℕ) → edge < edge_count t.superblock pass → c < 8 → P (cell_at edge c))
      → (a : EdgeRun) → Memᴰ a (joined cells_of) → P a
  joined_cells P more cell = joined_all P more cells_of (grid_all cell_at P (edge_count t.superblock pass) 8 cell)

  -- ---- runs are made of whole cells

  abbrev Whole : EdgeRun → Type 0
  Whole a = (0 < a.count) × (a.count % len ≡ 0)

  pub whole_cells : (a : EdgeRun) → Memᴰ a (joined cells_of) → Whole a
  unfolding cell_run
  whole_cells =
      joined_cells Whole (λ a b j p q. (omega arith, whole_more along a.count b.count p.1 q.1))
      (λ edge c h k. (some_cell along, whole_cell along))

  -- ---- the positions of all cells are those of the grid

  strip_positions : (edge c n : ℕ) → all_positions (strip cell_at edge c n) ≡ strip position edge (start c) (start n)
  unfolding cell_run
  strip_positions edge c zero = rw (start_none along)
  strip_positions edge c (suc n) =
      let more : start (suc n) ≡ len + start n = omega (arith, start_next n along) in
      ap (λ (l : List Position). strip position edge (start c) len ++ l) (strip_positions edge (suc c) n)
      ∙ sym (strip_split position edge (start c) len (start n) (start (suc c)) (start_next c along))
      ∙ ap (strip position edge (start c)) (sym more)

  strips-positions : (edge n : ℕ) → all_positions (strips cell_at edge n 8) ≡ strips position edge n edge_end
  strips-positions edge zero = refl
  strips-positions edge (suc n) =
      positions_append (strip cell_at edge 0 8) (strips cell_at (suc edge) n 8)
      ∙ (λ i. strip_positions edge 0 8 i ++ strips-positions (suc edge) n i)
      ∙ (rw (start_none along, edge_len_cells t.superblock pass))

  pub cells_positions : all_positions cells_of ≡ grid position (edge_count t.superblock pass) edge_end
  cells_positions = strips-positions 0 (edge_count t.superblock pass)

  -- ---- the cells are chained

  edge_ends : edge_end ≡ start 7 + len
  edge_ends = edge_len_cells t.superblock pass ∙ start_next 7 along

  strip_chain : (edge c n : ℕ) (l : List EdgeRun) → c + n ≡ 8 → Chain edge_end l → Chain edge_end (strip cell_at edge c n ++ l)
  unfolding cell_run
  strip_chain edge c zero l h k = k
  strip_chain edge c (suc zero) l h k =
      let last : c ≡ 7 = omega arith in
      Chain-ends {a = cell_at edge c} (rw last (omega (arith, edge_ends))) k
  strip_chain edge c (suc (suc n)) l h k =
      Chain-goes {a = cell_at edge c} {b = cell_at edge (suc c)} refl (sym (start_next c along)) (strip_chain edge (suc c) (suc n) l (omega arith) k)

  strips_chain : (edge n : ℕ) → Chain edge_end (strips cell_at edge n 8)
  strips_chain edge zero = Chain-none
  strips_chain edge (suc n) = strip_chain edge 0 8 (strips cell_at (suc edge) n 8) refl (strips_chain (suc edge) n)

  pub cells_chain : Chain edge_end cells_of
  cells_chain = strips_chain 0 (edge_count t.superblock pass)

  -- ---- a run says the same of all its positions

  abbrev First : EdgeRun → Type 0
  First b = (b.count ≡ len) × Says b.size b.level (decision_at t pass (position b.edge b.first))

  -- a cell has by definition what is decided at its first position
  pub first_says : (b : EdgeRun) → Memᴰ b cells_of → First b
  unfolding cell_run
  first_says = grid_all cell_at First (edge_count t.superblock pass) 8 (λ edge c h k. (refl, record { size = refl; level = refl }))

  abbrev pub Uniform : EdgeRun → Type 0
  Uniform a = (p : Position) → Memᴰ p (positions_of a) → Says a.size a.level (decision_at t pass p)

  cell_uniform : (edge c : ℕ) → Uniform (cell_at edge c)
  unfolding cell_run
  cell_uniform edge c p m =
      let r = strip_mem position edge (start c) len m in
      let e : r.e ≡ edge = omega arith in
      let i : r.i ≡ start c + (r.i - start c) = omega arith in
      let at = ap (decision_at t pass) (r.is ∙ (λ x. position (e x) (i x))) in
      let d = at ∙ same_decision t.superblock pass t.chroma t.cells edge c (r.i - start c) (omega arith) in
      record { size = ap (λ (x : Decision). x.size) d; level = ap level_of d }

  longer_uniform : (a b : EdgeRun) → Joins a b → Uniform a → Uniform b → Uniform (longer a b.count)
  longer_uniform a b j u v p m = by (Memᴰ.append_cases (positions_of a) (rw (longer-positions a b j) at m))
    where
      by : Memᴰ p (positions_of a) ⊎ Memᴰ p (positions_of b) → Says a.size a.level (decision_at t pass p)
      by (inl k) = u p k
      by (inr k) = rw (j.size, j.level) (v p k)

  pub joined_uniform : (a : EdgeRun) → Memᴰ a (joined cells_of) → Uniform a
  joined_uniform = joined_cells Uniform longer_uniform (λ edge c h k. cell_uniform edge c)

  -- ---- so the runs that filter have the positions that filter

  abbrev pub filtered : Position → Bool
  filtered p = ltb 0 (level_of (decision_at t pass p))

  pub uniform_kept : (a : EdgeRun) → Uniform a → select filtered (positions_of a) ≡ cond (run_filters a) (positions_of a) []
  uniform_kept a u =
      select_same filtered (λ _. run_filters a) (positions_of a) (λ p m. ap (ltb 0) (u p m).level) ∙ select_const (run_filters a) (positions_of a)
