-- The pass as its loops do it: run by run, each by one size and one level.
-- Assumes nothing.
use Rattle.std.specs.Prelude.{◌≡◌, Bool, false, cond, ◌++◌}
use Rattle.std.proofs.Common.{◌∙◌, add-one, arith, lt-ltb, le-ltb, ltb-false, refl, sym, ap, true, List, [], ◌∷◌, ℕ, zero, suc, ◌+◌, ◌^◌, ◌≤◌, ◌<◌, length}
use mathlib.Core.List.{Memᴰ}
use Rattle.base.specs.Depth.{supported, depth_scaled}
use Rattle.decided.specs.Decided.{Position, position, Setting, decision_at, decided, filters}
use Rattle.decided.specs.KeyRuns.{key_runs}
use Rattle.decided.proofs.KeyRunLaws.{key_runs_lem}
use Rattle.decided.specs.Runs.{run_filters, positions_of, all_positions}
use Rattle.decided.specs.RunsLaws.{runs_of}
use Rattle.decided.proofs.RunsLaws.{runs-positions, runs_alike, runs_longest}
use Rattle.decided.specs.declared.EdgeRun.{EdgeRun}
use Rattle.geometry.specs.Frame.{cells_from}
use Rattle.geometry.specs.declared.Pass.{Pass}
use Rattle.geometry.specs.declared.Pass.TheVariants.{Vertical, Horizontal}
use Rattle.geometry.specs.declared.Superblock.{Superblock}
use Rattle.keys.specs.Keys.{keys_of}
use Rattle.line.specs.SampleFiltering.{sample_filtering}
use Rattle.line.specs.SampleFilteringLaws.{filters_within}
use Rattle.order.specs.Grid.{select, strip, mem_strip}
use Rattle.order.specs.Order.{run}
use Rattle.order.specs.Walk.{run_append, run_strip_next, run_idle}
use Rattle.positions.specs.Positions.{Placed, plane_x, plane_y}
use Rattle.positions.specs.PositionsLaws.{plane_vertical, plane_horizontal}
use Rattle.strength.specs.Strength.{strength_of}
use Rattle.strength.specs.declared.FilterStrength.{FilterStrength}
use Rattle.window.specs.RangeLaws.{InRange, Keeps, position_range}
use Rattle.window.specs.Reach.{stencil_idle}
use Rattle.window.specs.Stencil.{Stencil, applied, in_turn}
use Rattle.window.specs.StencilLaws.{applied-length, in_turn-length}
use Rattle.window.specs.Window.{stencil, along_x, along_y, run_of}
use Rattle.window.specs.WindowLaws.{Lent}
use Rattle.window.specs.declared.WindowShape.{WindowShape}
use Rattle.pass.specs.Pass.{line_of, step, superblock_loop_filter}

-- what the tests leave: what the work asks for
pub record Ready (g : WindowShape) (t : Setting) (samples : List ℕ) : Type 0 where
  pub window : Lent g (length samples)
  pub range : InRange g (2 ^ t.depth) samples
  pub placed : Placed t.superblock
  pub cells : cells_from t.superblock.row t.superblock.cols t.superblock.rows ≤ length t.cells
  pub sharpness : t.sharpness ≤ 7
  pub depth : supported t.depth ≡ true

-- 12 bits hold samples of every depth
pub depth_12 : (depth : ℕ) → supported depth ≡ true → 2 ^ depth ≤ 4096
depth_12 depth h = let d = depth_scaled depth h in omega (arith, d.range, d.small)

-- ---- steps keep the length of the list, and samples in range

pub steps_length : (g : WindowShape) (t : Setting) (pass : Pass) (order : List Position) (samples : List ℕ) → length (run (step g t pass) order samples) ≡ length samples
unfolding step
steps_length g t pass [] samples = refl
steps_length g t pass (p ∷ order) samples = steps_length g t pass order (step g t pass p samples) ∙ applied-length _ samples

pub pass_length : (g : WindowShape) (t : Setting) (pass : Pass) (samples : List ℕ) → length (superblock_loop_filter g t pass samples) ≡ length samples
unfolding superblock_loop_filter
pass_length g t pass samples = steps_length g t pass (decided t pass) samples

-- the line filter keeps samples in range
pub line_keeps : (depth size limit blimit thresh : ℕ) → supported depth ≡ true → Keeps (2 ^ depth) (sample_filtering depth size limit blimit thresh)
line_keeps depth size limit blimit thresh deep = record { keep = λ taps h. (filters_within depth size limit blimit thresh taps deep (record { below = h })).below }

module _ (g : WindowShape) (n : ℕ) (w : Lent g n) (t : Setting) (pass : Pass) (depth : supported t.depth ≡ true) where
  pub steps_range : (order : List Position) (samples : List ℕ) → InRange g (2 ^ t.depth) samples → InRange g (2 ^ t.depth) (run (step g t pass) order samples)
  unfolding step line_of
  steps_range [] samples r = r
  steps_range (p ∷ order) samples r =
      let d = decision_at t pass p in
      steps_range order (step g t pass p samples) (position_range g (2 ^ t.depth) pass _ _ (filters d) (line_of t d) samples w.wide w.tall (line_keeps t.depth d.size _ _ _ depth) r)

-- ---- runs, filtered one after the other

-- a run, as the code filters it: one size and one strength for all its positions
unfoldable pub run_filtered : WindowShape → Superblock → Pass → (sharpness depth : ℕ) → EdgeRun → List ℕ → List ℕ
run_filtered g s pass sharpness depth a samples =
    let strength = strength_of a.level sharpness in
    cond (run_filters a)
    (in_turn (run_of g pass (plane_x s pass a.edge a.first) (plane_y s pass a.edge a.first) (sample_filtering depth a.size strength.limit strength.blimit strength.thresh)) a.count samples)
    samples

pub filtered_on : (g : WindowShape) (s : Superblock) (pass : Pass) (sharpness depth : ℕ) (a : EdgeRun) → 0 < a.level → (x y : ℕ) (st : FilterStrength)
    → x ≡ plane_x s pass a.edge a.first → y ≡ plane_y s pass a.edge a.first → st ≡ strength_of a.level sharpness
    → (samples result : List ℕ) → result ≡ in_turn (run_of g pass x y (sample_filtering depth a.size st.limit st.blimit st.thresh)) a.count samples
    → result ≡ run_filtered g s pass sharpness depth a samples
unfolding run_filtered
filtered_on g s pass sharpness depth a level x y st ex ey es samples result h =
    h ∙ (λ i. in_turn (run_of g pass (ex i) (ey i) (sample_filtering depth a.size (es i).limit (es i).blimit (es i).thresh)) a.count samples) ∙ (rw (lt-ltb 0 a.level level))

pub filtered_off : (g : WindowShape) (s : Superblock) (pass : Pass) (sharpness depth : ℕ) (a : EdgeRun) (samples : List ℕ) → a.level ≤ 0 → samples ≡ run_filtered g s pass sharpness depth a samples
unfolding run_filtered
filtered_off g s pass sharpness depth a samples none = rw (le-ltb 0 a.level none)

-- what holds of both cases of a test
pub either : {A : Type 0} (P : A → Type 0) (b : Bool) {x y : A} → P x → P y → P (cond b x y)
either P true p q = p
either P false p q = q

module _ (g : WindowShape) (s : Superblock) (pass : Pass) (sharpness depth : ℕ) where
  unfoldable pub runs_filtered : List EdgeRun → List ℕ → List ℕ
  runs_filtered l samples = run (run_filtered g s pass sharpness depth) l samples

  pub runs_none : (samples : List ℕ) → samples ≡ runs_filtered [] samples
  unfolding runs_filtered
  runs_none samples = refl

  pub runs_next : (a : EdgeRun) (l : List EdgeRun) (samples : List ℕ) → runs_filtered l (run_filtered g s pass sharpness depth a samples) ≡ runs_filtered (a ∷ l) samples
  unfolding runs_filtered
  runs_next a l samples = refl

  pub runs_one : (a : EdgeRun) (samples : List ℕ) → run_filtered g s pass sharpness depth a samples ≡ runs_filtered (a ∷ []) samples
  unfolding runs_filtered
  runs_one a samples = refl

  pub runs_append : (l m : List EdgeRun) (samples : List ℕ) → runs_filtered m (runs_filtered l samples) ≡ runs_filtered (l ++ m) samples
  unfolding runs_filtered
  runs_append l m samples = sym (run_append (run_filtered g s pass sharpness depth) l m samples)

  -- those that do not filter may be left out
  pub runs-select : (l : List EdgeRun) (samples : List ℕ) → runs_filtered l samples ≡ runs_filtered (select run_filters l) samples
  unfolding runs_filtered
  runs-select l samples =
      run_idle (run_filtered g s pass sharpness depth) run_filters l (λ a m e u. sym (filtered_off g s pass sharpness depth a u (ltb-false 0 a.level e))) samples

  -- they keep the length of the list, and samples in range
  run_length : (a : EdgeRun) (samples : List ℕ) → length (run_filtered g s pass sharpness depth a samples) ≡ length samples
  unfolding run_filtered
  run_length a samples = either (λ (l : List ℕ). length l ≡ length samples) (run_filters a) (in_turn-length _ a.count samples) refl

  pub runs-length : (l : List EdgeRun) (samples : List ℕ) → length (runs_filtered l samples) ≡ length samples
  unfolding runs_filtered
  runs-length [] samples = refl
  runs-length (a ∷ l) samples = runs-length l (run_filtered g s pass sharpness depth a samples) ∙ run_length a samples

  module _ {lent : ℕ} (w : Lent g lent) (deep : supported depth ≡ true) where
    turn_range : (x y size limit blimit thresh n : ℕ) (samples : List ℕ) → InRange g (2 ^ depth) samples
        → InRange g (2 ^ depth) (in_turn (run_of g pass x y (sample_filtering depth size limit blimit thresh)) n samples)
    unfolding in_turn
    turn_range x y size limit blimit thresh zero samples r = r
    turn_range x y size limit blimit thresh (suc n) samples r =
        position_range g (2 ^ depth) pass _ _ true _ _ w.wide w.tall (line_keeps depth size limit blimit thresh deep) (turn_range x y size limit blimit thresh n samples r)

    run_range : (a : EdgeRun) (samples : List ℕ) → InRange g (2 ^ depth) samples → InRange g (2 ^ depth) (run_filtered g s pass sharpness depth a samples)
    unfolding run_filtered
    run_range a samples r = either (InRange g (2 ^ depth)) (run_filters a) (turn_range _ _ a.size _ _ _ a.count samples r) r

    pub runs_range : (l : List EdgeRun) (samples : List ℕ) → InRange g (2 ^ depth) samples → InRange g (2 ^ depth) (runs_filtered l samples)
    unfolding runs_filtered
    runs_range [] samples r = r
    runs_range (a ∷ l) samples r = runs_range l (run_filtered g s pass sharpness depth a samples) (run_range a samples r)

-- so the work may go on behind a run
pub after_run : {g : WindowShape} (s : Superblock) (pass : Pass) (sharpness depth : ℕ) (a : EdgeRun) {before after : List ℕ}
    → Lent g (length before) → InRange g (2 ^ depth) before → supported depth ≡ true → after ≡ run_filtered g s pass sharpness depth a before → Lent g (length after) × InRange g (2 ^ depth) after
after_run {g} s pass sharpness depth a {before} lent range deep e =
    (rw (e, run_length g s pass sharpness depth a before) lent, rw e (run_range g s pass sharpness depth lent deep a before range))

-- ---- the runs of a pass are the pass

-- the steps of runs one behind the other
pos_steps : (f : Position → List ℕ → List ℕ) (l : List EdgeRun) (samples : List ℕ) → run f (all_positions l) samples ≡ run (λ (a : EdgeRun). run f (positions_of a)) l samples
pos_steps f [] samples = refl
pos_steps f (a ∷ l) samples = run_append f (positions_of a) (all_positions l) samples ∙ pos_steps f l (run f (positions_of a) samples)

-- k positions further along an edge
pub plane_along : (s : Superblock) (pass : Pass) (edge i k : ℕ) → (plane_x s pass edge (i + k) ≡ along_x pass (plane_x s pass edge i) k) × (plane_y s pass edge (i + k) ≡ along_y pass (plane_y s pass edge i) k)
plane_along s Vertical edge i k = plane_vertical s edge i k
plane_along s Horizontal edge i k = plane_horizontal s edge i k

-- only what is done for members counts
run_members : (f h : EdgeRun → List ℕ → List ℕ) (l : List EdgeRun) → ((a : EdgeRun) → Memᴰ a l → (samples : List ℕ) → f a samples ≡ h a samples)
    → (samples : List ℕ) → run f l samples ≡ run h l samples
run_members f h [] e samples = refl
run_members f h (a ∷ l) e samples = run_members f h l (λ b m. e b (Memᴰ.tail m)) (f a samples) ∙ ap (run h l) (e a (Memᴰ.head refl) samples)

module _ (g : WindowShape) (t : Setting) (pass : Pass) where
  abbrev run_step : EdgeRun → List ℕ → List ℕ
  run_step a samples = run (step g t pass) (positions_of a) samples

  -- the line filter of a size and a level
  abbrev line_by : (size level : ℕ) → List ℕ → List ℕ
  line_by size level =
      let strength = strength_of level t.sharpness in
      sample_filtering t.depth size strength.limit strength.blimit strength.thresh

  module _ (a : EdgeRun) (m : Memᴰ a (runs_of t pass)) where
    abbrev x : ℕ
    x = plane_x t.superblock pass a.edge a.first

    abbrev y : ℕ
    y = plane_y t.superblock pass a.edge a.first

    abbrev family : (k : ℕ) → Stencil
    family = run_of g pass x y (line_by a.size a.level)

    level : 0 < a.level
    level = (runs_longest t pass a m).level

    -- position k of the run does what the run's stencil k does
    does : (k : ℕ) → k < a.count → (samples : List ℕ) → applied (family k) samples ≡ step g t pass (position a.edge (a.first + k)) samples
    unfolding step line_of
    does k h samples =
        let d = decision_at t pass (position a.edge (a.first + k)) in
        let same = runs_alike t pass a m (position a.edge (a.first + k)) (mem_strip position a.edge a.first a.count (a.first + k) (omega arith) (omega arith)) in
        let on : filters d ≡ true = rw same.level (lt-ltb 0 a.level level) in
        let p = plane_along t.superblock pass a.edge a.first k in
        λ i. applied (stencil g pass (sym p.0 i) (sym p.1 i) (sym on i) (line_by (sym same.size i) (sym same.level i))) samples

    in_turn_steps : (samples : List ℕ) → in_turn family a.count samples ≡ run_step a samples
    unfolding in_turn
    in_turn_steps samples = from a.count (omega arith)
      where
        from : (n : ℕ) → n ≤ a.count → in_turn family n samples ≡ run (step g t pass) (strip position a.edge a.first n) samples
        from zero h = refl
        from (suc n) h =
            does n (omega arith) (in_turn family n samples)
            ∙ ap (step g t pass (position a.edge (a.first + n))) (from n (omega arith))
            ∙ sym (rw (add-one n) at (run_strip_next (step g t pass) position a.edge a.first n samples))

    filtered_steps : (samples : List ℕ) → run_filtered g t.superblock pass t.sharpness t.depth a samples ≡ run_step a samples
    unfolding run_filtered
    filtered_steps samples = rw (lt-ltb 0 a.level level) (in_turn_steps samples)

  pass_runs : (samples : List ℕ) → runs_filtered g t.superblock pass t.sharpness t.depth (runs_of t pass) samples ≡ superblock_loop_filter g t pass samples
  unfolding superblock_loop_filter step runs_filtered
  pass_runs samples =
      run_members (run_filtered g t.superblock pass t.sharpness t.depth) run_step (runs_of t pass) filtered_steps samples
      ∙ sym (pos_steps (step g t pass) (runs_of t pass) samples)
      ∙ ap (λ (l : List Position). run (step g t pass) l samples) (runs-positions t pass)
      ∙ sym (run_idle (step g t pass) (λ p. filters (decision_at t pass p)) (decided t pass) (λ p m e s. stencil_idle g pass _ _ _ (line_of t (decision_at t pass p)) s e) samples)

  -- and so are those of its keys
  pub keys_filtered : (outer inner : List ℕ) → outer ≡ keys_of t.superblock pass t.chroma t.cells 0 → inner ≡ keys_of t.superblock pass t.chroma t.cells 1
      → (samples : List ℕ) → runs_filtered g t.superblock pass t.sharpness t.depth (key_runs t.superblock pass outer inner) samples ≡ superblock_loop_filter g t pass samples
  keys_filtered outer inner even odd samples =
      ap (λ (l : List EdgeRun). runs_filtered g t.superblock pass t.sharpness t.depth l samples) (key_runs_lem t.superblock pass t.chroma t.cells outer inner even odd)
      ∙ pass_runs samples
