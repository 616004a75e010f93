-- The pass by chunks is the pass (`pass_of_chunks`), and what the code does for positions with keys is what they do: inside the window
-- with no clamps and no tests (`keyed_inside`), at its border position by position (`keyed_on`, `keyed_off`).
-- Assumes nothing.
use Rattle.std.specs.Prelude.{◌≡◌, Bool, true, false, ltb, length}
use Rattle.std.proofs.Common.{◌∙◌, add_assoc, add-one, lt-ltb, le-ltb, refl, sym, ap, cond, List, ◌++◌, append-nil, ℕ, zero, suc, ◌+◌, ◌*◌, ◌/◌, ◌%◌, ◌≤◌, ◌<◌, arith}
use mathlib.Core.List.{Memᴰ}
use Rattle.std.proofs.Math.Decide.{dec_lt}
use Rattle.decided.specs.Decided.{Position, position, Setting, decision_at, is_decided, decided, filters}
use Rattle.decided.proofs.KeyRunLaws.{key_for_lem, key_level, key_size}
use Rattle.decisions.specs.Decision.{Decision, decision}
use Rattle.decisions.specs.DecisionLaws.{same_decision, decision_size, decision_level}
use Rattle.geometry.specs.Coordinates.{shr}
use Rattle.geometry.specs.declared.Pass.{Pass}
use Rattle.geometry.specs.declared.Superblock.{Superblock}
use Rattle.keys.specs.Keys.{key_of, key_at, keys_of}
use Rattle.lanes.specs.KeyLine.{key_line}
use Rattle.lanes.specs.KeyLineLaws.{key_line_on, key_line_off}
use Rattle.line.specs.SampleFiltering.{sample_filtering}
use Rattle.order.specs.Grid.{strip, grid}
use Rattle.order.proofs.Grid.{grid_all, strips_split}
use Rattle.order.specs.Order.{run}
use Rattle.order.specs.Walk.{run_append, run_strip_next, run_beside}
use Rattle.pass_edges.specs.PassEdges.{along_sub, cell_len, edge_count, edge_len}
use Rattle.positions.specs.Positions.{plane_x, plane_y}
use Rattle.strength.specs.Strength.{strength_of}
use Rattle.strength.specs.declared.FilterStrength.{FilterStrength}
use Rattle.window.specs.InsideRun.{inside_run, first_tap, tap_step, along_step, plain_lines, lines-plain}
use Rattle.window.specs.Reach.{stencil_idle}
use Rattle.window.specs.Stencil.{applied, in_turn}
use Rattle.window.specs.StencilLaws.{in_turn_none, in_turn-length, in_turn_split, in_turn_same, in_turn_idle}
use Rattle.window.specs.Window.{stencil, along_x, along_y}
use Rattle.window.specs.declared.WindowShape.{WindowShape}
use Rattle.pass.specs.Pass.{line_of, step, superblock_loop_filter}
use Rattle.pass.specs.Chunks.{key_stencil, keyed_run, key_along, keyed, chunk, edge_chunks, pass_chunks}
use Rattle.pass.specs.WorkLaws.{plane_along}

-- ---- the line filter of a key, and the position that is filtered by it

module _ (sharpness depth key : ℕ) where
  module _ (g : WindowShape) (pass : Pass) (x y : ℕ) (samples : List ℕ) where
    -- what the code does where the level is above 0, and where it is 0
    pub keyed_on : (st : FilterStrength) → 0 < key % 64 → st ≡ strength_of (key % 64) sharpness
        → applied (stencil g pass x y true (sample_filtering depth (key / 64) st.limit st.blimit st.thresh)) samples ≡ applied (key_stencil g pass x y sharpness depth key) samples
    keyed_on st on is = λ i. applied (stencil g pass x y (sym (lt-ltb 0 (key % 64) on) i) (key_line_on sharpness depth key st on is i)) samples

    pub keyed_off : key % 64 ≡ 0 → applied (key_stencil g pass x y sharpness depth key) samples ≡ samples
    keyed_off off = stencil_idle g pass x y (ltb 0 (key % 64)) (key_line sharpness depth key) samples (le-ltb 0 (key % 64) (omega arith))

-- inside the window: no clamps and no tests
pub keyed_inside : (g : WindowShape) (pass : Pass) (x y n sharpness depth : ℕ) (keys : ℕ → ℕ) (samples : List ℕ) → inside_run g pass x y n ≡ true
    → in_turn (plain_lines (first_tap g pass x y) (tap_step g pass) (along_step g pass) (λ k. key_line sharpness depth (keys k))) n samples
    ≡ in_turn (keyed_run g pass x y sharpness depth keys) n samples
keyed_inside g pass x y n sharpness depth keys samples =
    lines-plain g pass x y n (λ k. ltb 0 (keys k % 64)) (λ k. key_line sharpness depth (keys k)) samples (λ k. key_line_off sharpness depth (keys k))

-- ---- a loop over the chunks of an edge, and over edges

-- the chunks of an edge are all its positions
edge_fits : (s : Superblock) (pass : Pass) → 16 * (edge_len s pass / 16) ≡ edge_len s pass
unfolding edge_len
edge_fits s pass = fit (along_sub s pass)
  where
    fit : (sub : Bool) → 16 * (shr 64 sub / 16) ≡ shr 64 sub
    fit true = refl
    fit false = refl

module _ (g : WindowShape) (s : Superblock) (pass : Pass) (sharpness depth : ℕ) (outer inner : List ℕ) where
  module _ (edge first : ℕ) where
    chunk_none : (samples : List ℕ) → samples ≡ chunk g s pass sharpness depth outer inner edge first 0 samples
    unfolding chunk
    chunk_none samples = in_turn_none _ samples

    -- n positions behind m
    chunk_split : (m n : ℕ) (samples : List ℕ)
        → chunk g s pass sharpness depth outer inner edge first (m + n) samples
        ≡ chunk g s pass sharpness depth outer inner edge (first + m) n (chunk g s pass sharpness depth outer inner edge first m samples)
    unfolding chunk
    chunk_split m n samples =
        in_turn_split (λ k. keyed g s pass sharpness depth outer inner edge (first + k)) m n samples
        ∙ in_turn_same _ _ n _ (λ k l u. ap (λ (i : ℕ). applied (keyed g s pass sharpness depth outer inner edge i) u) (sym (add_assoc first m k)))

    -- keys of level 0
    pub chunk_idle : (n : ℕ) (samples : List ℕ) → ((k : ℕ) → k < n → key_along s pass outer inner edge (first + k) % 64 ≡ 0)
        → chunk g s pass sharpness depth outer inner edge first n samples ≡ samples
    unfolding chunk
    chunk_idle n samples off = in_turn_idle _ n samples (λ k l u. keyed_off sharpness depth _ g pass _ _ u (off k l))

    chunk-length : (n : ℕ) (samples : List ℕ) → length (chunk g s pass sharpness depth outer inner edge first n samples) ≡ length samples
    unfolding chunk
    chunk-length n samples = in_turn-length _ n samples

    -- the same from the plane's coordinates of the first position and a list of keys
    module _ (x y n : ℕ) (keys : ℕ → ℕ) (samples : List ℕ) (ex : x ≡ plane_x s pass edge first) (ey : y ≡ plane_y s pass edge first)
        (named : (k : ℕ) → k < n → keys k ≡ key_along s pass outer inner edge (first + k)) where
      pub chunk-along : in_turn (keyed_run g pass x y sharpness depth keys) n samples ≡ chunk g s pass sharpness depth outer inner edge first n samples
      unfolding chunk
      chunk-along = in_turn_same _ _ n samples (λ k l u.
          let p = plane_along s pass edge first k in
          (λ i. applied (key_stencil g pass (along_x pass (ex i) k) (along_y pass (ey i) k) sharpness depth (named k l i)) u)
          ∙ (λ i. applied (key_stencil g pass (sym p.0 i) (sym p.1 i) sharpness depth (key_along s pass outer inner edge (first + k))) u))

  pub edge_chunks_none : (edge : ℕ) (samples : List ℕ) → samples ≡ edge_chunks g s pass sharpness depth outer inner edge 0 samples
  unfolding edge_chunks
  edge_chunks_none edge samples = refl

  pub edge_chunks_next : (edge m : ℕ) (before between after : List ℕ) → after ≡ chunk g s pass sharpness depth outer inner edge (16 * m) 16 between
      → between ≡ edge_chunks g s pass sharpness depth outer inner edge m before → after ≡ edge_chunks g s pass sharpness depth outer inner edge (m + 1) before
  unfolding edge_chunks
  edge_chunks_next edge m before between after e h = rw (add-one m) (e ∙ ap (chunk g s pass sharpness depth outer inner edge (16 * m) 16) h)

  -- the first m chunks are the first 16 m positions
  edge_chunks_whole : (edge m : ℕ) (samples : List ℕ) → edge_chunks g s pass sharpness depth outer inner edge m samples ≡ chunk g s pass sharpness depth outer inner edge 0 (16 * m) samples
  unfolding edge_chunks
  edge_chunks_whole edge zero samples = chunk_none edge 0 samples
  edge_chunks_whole edge (suc m) samples =
      let more : 16 * m + 16 ≡ 16 * suc m = omega arith in
      let start : 16 * m ≡ 0 + 16 * m = omega arith in
      (λ i. chunk g s pass sharpness depth outer inner edge (start i) 16 (edge_chunks_whole edge m samples i))
      ∙ sym (chunk_split edge 0 (16 * m) 16 samples)
      ∙ ap (λ (n : ℕ). chunk g s pass sharpness depth outer inner edge 0 n samples) more

  pub edge_chunks-length : (edge m : ℕ) (samples : List ℕ) → length (edge_chunks g s pass sharpness depth outer inner edge m samples) ≡ length samples
  edge_chunks-length edge m samples = ap length (edge_chunks_whole edge m samples) ∙ chunk-length edge 0 (16 * m) samples

  pub pass_chunks_none : (samples : List ℕ) → samples ≡ pass_chunks g s pass sharpness depth outer inner 0 samples
  unfolding pass_chunks
  pass_chunks_none samples = refl

  pub pass_chunks_next : (n : ℕ) (before between after : List ℕ) → after ≡ edge_chunks g s pass sharpness depth outer inner n (edge_len s pass / 16) between
      → between ≡ pass_chunks g s pass sharpness depth outer inner n before → after ≡ pass_chunks g s pass sharpness depth outer inner (n + 1) before
  unfolding pass_chunks
  pass_chunks_next n before between after e h = rw (add-one n) (e ∙ ap (edge_chunks g s pass sharpness depth outer inner n (edge_len s pass / 16)) h)

  pub pass_chunks-length : (n : ℕ) (samples : List ℕ) → length (pass_chunks g s pass sharpness depth outer inner n samples) ≡ length samples
  unfolding pass_chunks
  pass_chunks-length zero samples = refl
  pass_chunks-length (suc n) samples = edge_chunks-length n (edge_len s pass / 16) _ ∙ pass_chunks-length n samples

  -- ---- as a walk over positions

  abbrev keyed_step : Position → List ℕ → List ℕ
  keyed_step p = applied (keyed g s pass sharpness depth outer inner p.edge p.i)

  chunk_run : (edge first n : ℕ) (samples : List ℕ) → chunk g s pass sharpness depth outer inner edge first n samples ≡ run keyed_step (strip position edge first n) samples
  unfolding chunk in_turn
  chunk_run edge first zero samples = refl
  chunk_run edge first (suc n) samples =
      ap (keyed_step (position edge (first + n))) (chunk_run edge first n samples)
      ∙ sym (rw (add-one n) at (run_strip_next keyed_step position edge first n samples))

  edge_run : (edge : ℕ) (samples : List ℕ) → edge_chunks g s pass sharpness depth outer inner edge (edge_len s pass / 16) samples ≡ run keyed_step (strip position edge 0 (edge_len s pass)) samples
  edge_run edge samples =
      edge_chunks_whole edge (edge_len s pass / 16) samples
      ∙ ap (λ (n : ℕ). chunk g s pass sharpness depth outer inner edge 0 n samples) (edge_fits s pass)
      ∙ chunk_run edge 0 (edge_len s pass) samples

  pass_run : (n : ℕ) (samples : List ℕ) → pass_chunks g s pass sharpness depth outer inner n samples ≡ run keyed_step (grid position n (edge_len s pass)) samples
  unfolding pass_chunks
  pass_run zero samples = refl
  pass_run (suc n) samples =
      edge_run n (pass_chunks g s pass sharpness depth outer inner n samples)
      ∙ ap (run keyed_step (strip position n 0 (edge_len s pass))) (pass_run n samples)
      ∙ sym (run_append keyed_step (grid position n (edge_len s pass)) (strip position n 0 (edge_len s pass)) samples)
      ∙ ap (λ (l : List Position). run keyed_step l samples) (sym last)
    where
      last : grid position (suc n) (edge_len s pass) ≡ grid position n (edge_len s pass) ++ strip position n 0 (edge_len s pass)
      last =
          (rw (add-one n) at (strips_split position 0 n 1 (edge_len s pass) n (omega arith)))
          ∙ ap (λ (l : List Position). grid position n (edge_len s pass) ++ l) (append-nil (strip position n 0 (edge_len s pass)))

-- ---- the keys of a pass: what each position does is the pass's step where it is decided, and else nothing

-- a position and its cell
record CellOf (sub : Bool) (i : ℕ) : Type 0 where
  few : i / shr 8 sub < 8
  on : i % shr 8 sub < shr 8 sub
  is : shr (8 * (i / shr 8 sub)) sub + i % shr 8 sub ≡ i

cell_of_lem : (sub : Bool) (i : ℕ) → i < shr 64 sub → CellOf sub i
cell_of_lem true i h = record { few = omega arith; on = omega arith; is = omega arith }
cell_of_lem false i h = record { few = omega arith; on = omega arith; is = omega arith }

module _ (g : WindowShape) (t : Setting) (pass : Pass) (outer inner : List ℕ)
    (even : outer ≡ keys_of t.superblock pass t.chroma t.cells 0) (odd : inner ≡ keys_of t.superblock pass t.chroma t.cells 1) where
  module _ (edge i : ℕ) (he : edge < edge_count t.superblock pass) (hi : i < edge_len t.superblock pass) where
    abbrev d : Decision
    d = decision_at t pass (position edge i)

    abbrev x : ℕ
    x = plane_x t.superblock pass edge i

    abbrev y : ℕ
    y = plane_y t.superblock pass edge i

    abbrev key : ℕ
    key = key_along t.superblock pass outer inner edge i

    key_is : key ≡ key_of d
    unfolding key_along key_at edge_len
    key_is =
        let s = t.superblock in
        let c = cell_of_lem (along_sub s pass) i hi in
        key_for_lem s pass t.chroma t.cells outer inner even odd edge (i / cell_len s pass) he c.few
        ∙ ap key_of (sym (same_decision s pass t.chroma t.cells edge (i / cell_len s pass) (i % cell_len s pass) c.on) ∙ ap (decision s pass t.chroma t.cells edge) c.is)

    small_size : d.size ≤ 2
    small_size = decision_size t.superblock pass t.chroma t.cells edge i

    small_level : d.level ≤ 63
    small_level = decision_level t.superblock pass t.chroma t.cells edge i

    does : (samples : List ℕ) → applied (key_stencil g pass x y t.sharpness t.depth key) samples ≡ cond (is_decided t pass (position edge i)) (step g t pass (position edge i) samples) samples
    unfolding is_decided step line_of
    does samples = by d.decided refl (dec_lt 0 d.level)
      where
        level : {b : Bool} → d.decided ≡ b → key % 64 ≡ cond b d.level 0
        level e = ap (λ (n : ℕ). n % 64) key_is ∙ key_level d small_size small_level ∙ ap (λ (b : Bool). cond b d.level 0) e

        off : key % 64 ≡ 0 → applied (key_stencil g pass x y t.sharpness t.depth key) samples ≡ samples
        off e = keyed_off t.sharpness t.depth key g pass x y samples e

        by : (b : Bool) → d.decided ≡ b → Dec (0 < d.level) → applied (key_stencil g pass x y t.sharpness t.depth key) samples ≡ cond b (step g t pass (position edge i) samples) samples
        by false e l = off (level e)
        by true e (no l) =
            off (omega (arith, level e)) ∙ sym (stencil_idle g pass x y (filters d) (line_of t d) samples (le-ltb 0 d.level (omega arith)))
        by true e (yes l) =
            let size : key / 64 ≡ d.size = ap (λ (n : ℕ). n / 64) key_is ∙ key_size d small_size small_level (rw e l) in
            let st = strength_of d.level t.sharpness in
            let line = sym (key_line_on t.sharpness t.depth key st (omega (arith, level e)) (ap (λ (n : ℕ). strength_of n t.sharpness) (sym (level e)))) in
            (λ j. applied (stencil g pass x y (ltb 0 (level e j)) (line j)) samples)
            ∙ ap (λ (n : ℕ). applied (stencil g pass x y (filters d) (sample_filtering t.depth n st.limit st.blimit st.thresh)) samples) size

  -- THE PASS BY CHUNKS
  pub pass_of_chunks : (samples : List ℕ)
      → pass_chunks g t.superblock pass t.sharpness t.depth outer inner (edge_count t.superblock pass) samples ≡ superblock_loop_filter g t pass samples
  unfolding superblock_loop_filter decided
  pass_of_chunks samples =
      pass_run g t.superblock pass t.sharpness t.depth outer inner (edge_count t.superblock pass) samples
      ∙ sym (run_beside (λ (u w : List ℕ). u ≡ w) (step g t pass) (is_decided t pass) walk positions (λ p m u w e. rw e (sym (each p m w))) samples samples refl)
    where
      positions : List Position
      positions = grid position (edge_count t.superblock pass) (edge_len t.superblock pass)

      walk : Position → List ℕ → List ℕ
      walk = keyed_step g t.superblock pass t.sharpness t.depth outer inner

      each : (p : Position) → Memᴰ p positions → (w : List ℕ) → walk p w ≡ cond (is_decided t pass p) (step g t pass p w) w
      each = grid_all position (λ p. (w : List ℕ) → walk p w ≡ cond (is_decided t pass p) (step g t pass p w) w) (edge_count t.superblock pass) (edge_len t.superblock pass) (λ e i a b. does e i a b)
