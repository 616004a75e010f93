-- The pass over a row's words is the page's (`pass_standard`).
-- Assumes nothing.
use Rattle.std.specs.Prelude.{◌≡◌, Bool, cond, ◌&&◌, eqb, ltb}
use Rattle.std.proofs.Math.Path.{refl, sym, ap}
use Rattle.std.proofs.Common.{◌∙◌, subst, zero-add, add-one, arith, List, ◌++◌, append-nil, ℕ, zero, suc, ◌+◌, ◌*◌, ◌≤◌, ◌<◌}
use Rattle.std.proofs.Math.Bool.{true, false}
use mathlib.Core.List.{Memᴰ}
use Rattle.std.proofs.Math.Dec.{T}
use Rattle.std.proofs.Math.ListN.{length}
use borrow.Author.Tests.{not-false}
use Rattle.base.specs.First.{found, found-false}
use Rattle.base.specs.Notation.{◌>>◌}
use Rattle.base.specs.Outcome.{accepted}
use Rattle.decided.specs.Decided.{Position, position, Setting, setting, decision_at, is_decided, decided, superblock_of, setting_of}
use Rattle.decisions.specs.Decision.{Decision, without_level, levelless}
use Rattle.decisions.specs.DecisionLaws.{decision_size}
use Rattle.decisions.specs.LevellessLaws.{levelless_at_lem}
use Rattle.geometry.specs.Frame.{cells_from}
use Rattle.geometry.specs.FrameStandard.{superblock_at, pass_number, Subsampled, sub_x_small, sub_y_small}
use Rattle.geometry.specs.declared.Pass.{Pass}
use Rattle.geometry.specs.declared.Pass.TheVariants.{Vertical, Horizontal}
use Rattle.geometry.specs.declared.Superblock.{Superblock}
use Rattle.line.specs.SampleFiltering.{sample_filtering}
use Rattle.line.specs.SampleFilteringLaws.{reads}
use Rattle.order.specs.Grid.{grid, select, select_mem, select_passes, select_same, strip}
use Rattle.order.proofs.Grid.{grid_mem, strips_split}
use Rattle.order.specs.Order.{run}
use Rattle.order.specs.Walk.{run_append, run_strip_next, run_beside}
use Rattle.base.specs.Width.{Width}
use Rattle.pass.specs.Pass.{line_of, step, superblock_loop_filter, superblock_loop_filter_cells}
use Rattle.pass.specs.PassLaws.{ran}
use Rattle.pass_edges.specs.PassEdges.{pass_of, edge_count, edge_len}
use Rattle.pass_edges.specs.PassEdgesLaws.{edge_len_small}
use Rattle.pass_edges.specs.PassEdgesStandard.{pass_number_lem, edge_count_standard, edge_len_standard}
use Rattle.plane_steps.specs.PlaneSteps.{Shows, Unclamped, step_standard}
use Rattle.positions.specs.Positions.{Placed}
use Rattle.positions.specs.PositionsStandard.{plane_x_standard, plane_y_standard}
use Rattle.row.specs.Row.{ModeInfo, row as row_of}
use Rattle.row.specs.RowStandard.{Made, row_made}
use Rattle.section_8_8.specs.LoopFilterProcess as Std
use Rattle.section_8_8.specs.TapsInPlane.{taps_read, InPlane, taps_in_plane}
use Rattle.strength.specs.StrengthStandard.{strength_standard}
use Rattle.window.specs.Reach.{stencil_idle}
use Rattle.window.specs.Stencil.{applied}
use Rattle.window.specs.StencilLaws.{applied-length}
use Rattle.window.specs.Window.{stencil}
use Rattle.window.specs.WindowLaws.{Lent}
use Rattle.window.specs.declared.WindowShape.{WindowShape}
use Rattle.standard.proofs.DecidedStandard.{decided_standard, size_standard, level_standard, block_known}
use Rattle.standard.specs.FrameLists.{Holds, Entries}
use Rattle.standard.specs.PassStandard.{StandardPass, Whole}

-- ---- the page's loops go through the grid of positions

module _ {S : Type 0} (body : (edge i : ℕ) → S → S) where
  abbrev at_position : Position → S → S
  at_position p = body p.edge p.i

  for_strip : (edge n : ℕ) (s : S) → Std.for_to n (body edge) s ≡ run at_position (strip position edge 0 n) s
  unfolding Std.for_to
  for_strip edge zero s = refl
  for_strip edge (suc n) s =
      ap (body edge n) (for_strip edge n s)
      ∙ ap (λ (m : ℕ). body edge m (run at_position (strip position edge 0 n) s)) (sym (zero-add n))
      ∙ sym (run_strip_next at_position position edge 0 n s)
      ∙ ap (λ (m : ℕ). run at_position (strip position edge 0 m) s) (add-one n)

  for_grid : (n k : ℕ) (s : S) → Std.for_to n (λ edge. Std.for_to k (body edge)) s ≡ run at_position (grid position n k) s
  unfolding Std.for_to
  for_grid zero k s = refl
  for_grid (suc n) k s =
      for_strip n k _
      ∙ ap (run at_position (strip position n 0 k)) (for_grid n k s)
      ∙ sym (run_append at_position (grid position n k) (strip position n 0 k) s)
      ∙ ap (λ (l : List Position). run at_position l s) (last_strip ∙ ap (λ (m : ℕ). grid position m k) (add-one n))
    where
      last_strip : grid position n k ++ strip position n 0 k ≡ grid position (n + 1) k
      last_strip = ap (λ (l : List Position). grid position n k ++ l) (sym (append-nil (strip position n 0 k))) ∙ sym (strips_split position 0 n 1 k n (sym (zero-add n)))

-- ---- the whole plane

unclamped : (f : Std.Frame) (plane : ℕ) (g : WindowShape) (pass : Pass) (x y r : ℕ) → Whole f plane g → InPlane f plane (pass_number pass) x y r → Unclamped g pass x y r
unclamped f plane g Vertical x y r w i = record {
  inside = λ k low high.
      let left = i.left in
      let right = i.right in
      record { x_from = omega arith; x_to = omega arith; y_from = omega arith; y_to = omega arith };
}
unclamped f plane g Horizontal x y r w i = record {
  inside = λ k low high.
      let above = i.above in
      let below = i.below in
      record { x_from = omega arith; x_to = omega arith; y_from = omega arith; y_to = omega arith };
}

taps_read_lem : (size : ℕ) → size ≤ 2 → taps_read size ≡ reads size
taps_read_lem zero h = refl
taps_read_lem (suc zero) h = refl
taps_read_lem (suc (suc zero)) h = refl
taps_read_lem (suc (suc (suc size))) h = absurd (omega arith)

-- ---- one position

module _ (f : Std.Frame) (small : Subsampled f) (m : ModeInfo) (levels cells words : List ℕ) (row : ℕ)
    (made : Made m levels (eqb f.subsampling_x 1) (eqb f.subsampling_y 1) (cells_from row f.mi_cols f.mi_rows) cells words) (holds : Holds f row m)
    (table : (segment ref mode : ℕ) → ℕ) (entries : Entries f row levels table)
    (plane col : ℕ) (at : Placed (superblock_at f plane row col)) (pass : Pass)
    (present : found (levelless (superblock_at f plane row col) pass (ltb 0 plane) words) (64 * edge_count (superblock_at f plane row col) pass) ≡ false) where
  abbrev t : Setting
  t = setting (superblock_at f plane row col) (ltb 0 plane) f.sharpness f.bit_depth words

  abbrev number : ℕ
  number = pass_number pass

  abbrev positions : List Position
  positions = grid position (edge_count t.superblock pass) (edge_len t.superblock pass)

  on_grid : (p : Position) → Memᴰ p positions → (p.edge < edge_count t.superblock pass) × (p.i < edge_len t.superblock pass)
  on_grid p k =
      let c = grid_mem position (edge_count t.superblock pass) (edge_len t.superblock pass) k in
      let high = c.high in
      let to = c.to in
      rw c.is (omega arith, omega arith)

  module _ (p : Position) (k : Memᴰ p positions) where
    abbrev applies : Bool
    applies = Std.apply_filter f plane number row col p.edge p.i

    abbrev size : ℕ
    size = Std.filter_size f plane number row col p.edge p.i

    abbrev lvl : ℕ
    lvl = Std.lvl f plane number row col p.edge p.i table

    abbrev x : ℕ
    x = Std.x f plane number row col p.edge p.i >> Std.sub_x f plane

    abbrev y : ℕ
    y = Std.y f plane number row col p.edge p.i >> Std.sub_y f plane

    decides : is_decided t pass p ≡ applies
    unfolding is_decided
    decides = let c = on_grid p k in decided_standard f small m levels cells words row made holds plane col at pass p.edge p.i c.0 c.1

    module _ (e : is_decided t pass p ≡ true) where
      size_is : (decision_at t pass p).size ≡ size
      unfolding is_decided
      size_is = let c = on_grid p k in size_standard f small m levels cells words row made holds plane col at pass p.edge p.i c.0 c.1 e

      -- 14 is not returned, so what is decided has a level
      has_level : (decision_at t pass p).present ≡ true
      unfolding is_decided
      has_level =
          let c = on_grid p k in
          let on = c.0 in
          let along = c.1 in
          let len = edge_len_small t.superblock pass in
          let none = found-false _ _ present (64 * p.edge + p.i) (omega arith) in
          without (decision_at t pass p) e (sym (levelless_at_lem t.superblock pass (ltb 0 plane) words p.edge p.i along) ∙ none)
        where
          without : (d : Decision) → d.decided ≡ true → without_level d ≡ false → d.present ≡ true
          without d on hit = not-false d.present (rw on at hit)

      level_is : (decision_at t pass p).level ≡ lvl
      unfolding is_decided
      level_is = let c = on_grid p k in level_standard f small m levels cells words row made holds plane col at pass p.edge p.i c.0 c.1 e table entries has_level

      -- our step is a stencil with the page's numbers
      step_is : (g : WindowShape) (samples : List ℕ) → step g t pass p samples
          ≡ applied (stencil g pass x y (ltb 0 lvl) (sample_filtering f.bit_depth size (Std.limit_of lvl f.sharpness) (Std.blimit_of lvl f.sharpness) (Std.thresh_of lvl))) samples
      unfolding step line_of
      step_is g samples =
          rw (
            plane_x_standard f small plane row col p.edge p.i pass,
            plane_y_standard f small plane row col p.edge p.i pass,
            size_is,
            level_is,
            strength_standard lvl f.sharpness,
          )

    -- step 17 on the window and on the plane that it shows
    module _ (g : WindowShape) (whole : Whole f plane g) where
      in_step : is_decided t pass p ≡ true → ltb 0 lvl ≡ true → (samples : List ℕ) (s : Std.Plane) → Lent g (length samples) → Shows g samples s
          → Shows g (step g t pass p samples) (Std.filtered_at f table plane number row col p.edge p.i s)
      unfolding Std.filtered_at is_decided
      in_step e l samples s lent shown =
          let c = on_grid p k in
          let known = block_known f small m levels cells words row made holds plane col at pass p.edge p.i c.0 c.1 (decided_e e) in
          let r = at.row_eighth in
          let q = at.col_eighth in
          let inside = taps_in_plane f plane number row col p.edge p.i (number_small pass) (sub_x_small f small plane) (sub_y_small f small plane) r q known.0 known.1 (sym decides ∙ e) in
          let clear = unclamped f plane g pass x y (taps_read size) whole inside in
          rw (step_is e g samples, l, sym decides ∙ e)
          (step_standard g pass x y f.bit_depth size (Std.limit_of lvl f.sharpness) (Std.blimit_of lvl f.sharpness) (Std.thresh_of lvl) samples s lent shown
          (rw (taps_read_lem size (size_small e)) at clear))
        where
          decided_e : is_decided t pass p ≡ true → (decision_at t pass p).decided ≡ true
          decided_e e = e

          size_small : is_decided t pass p ≡ true → size ≤ 2
          size_small e = rw (size_is e) at (decision_size t.superblock pass (ltb 0 plane) words p.edge p.i)

          number_small : (pass : Pass) → pass_number pass ≤ 1
          number_small Vertical = omega arith
          number_small Horizontal = omega arith

      -- where nothing is filtered both are left
      idle : applies && ltb 0 lvl ≡ false → (s : Std.Plane) → s ≡ Std.filtered_at f table plane number row col p.edge p.i s
      unfolding Std.filtered_at
      idle e s = rw e

      position_standard : (samples : List ℕ) (s : Std.Plane) → Lent g (length samples) → Shows g samples s
          → Shows g (cond (is_decided t pass p) (step g t pass p samples) samples) (Std.filtered_at f table plane number row col p.edge p.i s)
      position_standard samples s lent shown = cases (is_decided t pass p) (ltb 0 lvl) refl refl
        where
          cases : (a b : Bool) → is_decided t pass p ≡ a → ltb 0 lvl ≡ b
              → Shows g (cond a (step g t pass p samples) samples) (Std.filtered_at f table plane number row col p.edge p.i s)
          cases false b e l = rw (← idle (rw (sym decides ∙ e)) s) shown
          cases true true e l = in_step e l samples s lent shown
          cases true false e l = rw (step_is e g samples, l, stencil_idle g pass x y false _ samples refl, ← idle (rw (sym decides ∙ e, l)) s) shown

  -- ---- all positions

  abbrev filtered : Position → Bool
  filtered p = Std.apply_filter f plane number row col p.edge p.i

  -- the decided positions are those that step 14 filters, edge and i rising
  same_positions : decided t pass ≡ select filtered (grid position (16 >> Std.sub f plane number) (Std.edge_len f plane number))
  unfolding decided
  same_positions =
      select_same (is_decided t pass) filtered positions decides
      ∙ (λ j. select filtered (grid position (edge_count_standard f small plane row col pass j) (edge_len_standard f small plane row col pass j)))

  of_decided : (p : Position) → Memᴰ p (decided t pass) → Memᴰ p positions × (is_decided t pass p ≡ true)
  unfolding decided
  of_decided p k = (select_mem (is_decided t pass) positions k, T_true _ (select_passes (is_decided t pass) positions k))
    where
      T_true : (b : Bool) → T b → b ≡ true
      T_true true h = refl
      T_true false h = absurd h

  step-length : (g : WindowShape) (p : Position) (samples : List ℕ) → length (cond (is_decided t pass p) (step g t pass p samples) samples) ≡ length samples
  unfolding step
  step-length g p samples = cases (is_decided t pass p)
    where
      cases : (b : Bool) → length (cond b (step g t pass p samples) samples) ≡ length samples
      cases true = applied-length _ samples
      cases false = refl

  same_samples : (g : WindowShape) → Whole f plane g → (samples : List ℕ) (s : Std.Plane) → Lent g (length samples) → Shows g samples s
      → Shows g (superblock_loop_filter g t pass samples) (Std.superblock_pass f table plane number row col s)
  unfolding superblock_loop_filter decided Std.superblock_pass
  same_samples g whole samples s lent shown =
      rw (← edge_count_standard f small plane row col pass, ← edge_len_standard f small plane row col pass, for_grid (Std.filtered_at f table plane number row col) (edge_count t.superblock pass) (edge_len t.superblock pass) s)
      (run_beside (λ u v. Lent g (length u) × Shows g u v) (step g t pass) (is_decided t pass) (at_position (Std.filtered_at f table plane number row col)) positions
      (λ p k u v r. (subst (Lent g) (sym (step-length g p u)) r.0, position_standard p k g whole u v r.0 r.1))
      samples s (lent, shown)).1

-- ---- THE TIE

-- plane 0 counts as not subsampled
same_superblock : (f : Std.Frame) (plane row col : ℕ) → plane ≤ 2 → superblock_at f plane row col ≡ superblock_of f.subsampling_x f.subsampling_y f.mi_cols f.mi_rows row col plane
same_superblock f zero row col h = refl
same_superblock f (suc zero) row col h = refl
same_superblock f (suc (suc zero)) row col h = refl
same_superblock f (suc (suc (suc plane))) row col h = absurd (omega arith)

-- For a frame whose mode info the lists hold and a level table that has the standard's entries: where the row makes words of the
-- lists, and the pass over those words is accepted, at either width of samples, it is the standard's.
pub pass_standard : (width : Width) (f : Std.Frame) (table : (segment ref mode : ℕ) → ℕ) (m : ModeInfo) (levels : List ℕ) (g : WindowShape) (row col plane pass : ℕ) (cells words samples result : List ℕ)
    → Holds f row m → Entries f row levels table
    → row_of m levels f.sharpness f.bit_depth f.subsampling_x f.subsampling_y f.mi_cols f.mi_rows row cells ≡ accepted words
    → superblock_loop_filter_cells width g f.sharpness f.bit_depth f.subsampling_x f.subsampling_y f.mi_cols f.mi_rows row col plane pass words samples ≡ accepted result
    → StandardPass f table plane pass row col g (setting_of f.sharpness f.bit_depth f.subsampling_x f.subsampling_y f.mi_cols f.mi_rows row col plane words) (pass_of pass) samples result
pass_standard width f table m levels g row col plane pass cells words samples result holds entries made e =
    let r = ran width g f.sharpness f.bit_depth f.subsampling_x f.subsampling_y f.mi_cols f.mi_rows row col plane pass words samples result e in
    let flags = r.numbers.flags in
    let w = row_made m levels f.sharpness f.bit_depth f.subsampling_x f.subsampling_y f.mi_cols f.mi_rows row cells words made in
    subst (λ (n : ℕ). StandardPass f table plane n row col g (over (superblock_of f.subsampling_x f.subsampling_y f.mi_cols f.mi_rows row col plane)) (pass_of pass) samples result)
    (pass_number_lem pass r.numbers.pass_known)
    (by (superblock_of f.subsampling_x f.subsampling_y f.mi_cols f.mi_rows row col plane) (same_superblock f plane row col r.numbers.plane_known) (record { x = flags.0; y = flags.1 }) w (r.numbers.placed_at _ _) r.lists.levels_present r.lists.window_lent r.result_is)
  where
    over : Superblock → Setting
    over s = setting s (ltb 0 plane) f.sharpness f.bit_depth words

    by : (s : Superblock) → superblock_at f plane row col ≡ s → Subsampled f → Made m levels (eqb f.subsampling_x 1) (eqb f.subsampling_y 1) (cells_from row f.mi_cols f.mi_rows) cells words
        → Placed (superblock_at f plane row col)
        → found (levelless s (pass_of pass) (ltb 0 plane) words) (64 * edge_count s (pass_of pass)) ≡ false
        → Lent g (length samples) → result ≡ superblock_loop_filter g (over s) (pass_of pass) samples
        → StandardPass f table plane (pass_number (pass_of pass)) row col g (over s) (pass_of pass) samples result
    by s q small w at present lent is =
        let none = subst (λ (u : Superblock). found (levelless u (pass_of pass) (ltb 0 plane) words) (64 * edge_count u (pass_of pass)) ≡ false) (sym q) present in
        let ours = is ∙ ap (λ (u : Superblock). superblock_loop_filter g (over u) (pass_of pass) samples) (sym q) in
        subst (λ (u : Superblock). StandardPass f table plane (pass_number (pass_of pass)) row col g (over u) (pass_of pass) samples result) q
        (record {
          positions_are = same_positions f small m levels cells words row w holds table entries plane col at (pass_of pass) none;
          size_is = λ p k.
              let d = of_decided f small m levels cells words row w holds table entries plane col at (pass_of pass) none p k in
              size_is f small m levels cells words row w holds table entries plane col at (pass_of pass) none p d.0 d.1;
          level_is = λ p k.
              let d = of_decided f small m levels cells words row w holds table entries plane col at (pass_of pass) none p k in
              level_is f small m levels cells words row w holds table entries plane col at (pass_of pass) none p d.0 d.1;
          samples_are = λ whole s shown. rw ours (same_samples f small m levels cells words row w holds table entries plane col at (pass_of pass) none g whole samples s lent shown);
        })
