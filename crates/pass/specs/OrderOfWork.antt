-- THE ORDER OF WORK, document 01's condition 3: every order of work on the decided positions of a pass ends with the samples that the
-- pass leaves, and changes none outside the window (`order_of_work`).
-- Assumes nothing.
use Rattle.std.specs.Prelude.{◌≡◌, ◌≢◌, ◌⊎◌, Bool, true, false, ℕ, ◌+◌, ◌*◌, ◌<◌, length, get_or}
use Rattle.std.proofs.Math.Path.{refl}
use Rattle.std.proofs.Common.{sym, ◌∙◌, inl, inr, arith}
use mathlib.Core.List.{List, [], ◌∷◌, Memᴰ}
use Rattle.positions.specs.Positions.{luma_x, luma_y, plane_x, plane_y}
use Rattle.pass_edges.specs.PassEdges.{edge_count, edge_len}
use Rattle.geometry.specs.Coordinates.{shl, shr}
use Rattle.geometry.specs.declared.Pass.{Pass}
use Rattle.geometry.specs.declared.Pass.TheVariants.{Vertical, Horizontal}
use Rattle.geometry.specs.declared.Superblock.{Superblock}
use Rattle.order.specs.Grid.{grid, select, select_before, select_mem, select_passes, mem_select}
use Rattle.order.proofs.Grid.{grid_before, grid_mem, mem_grid}
use Rattle.order.specs.Order.{Before, Once, run, same_run}
use Rattle.window.specs.Reach.{Reach, reach_apart, stencil_other}
use Rattle.window.specs.StencilLaws.{applied_exchange}
use Rattle.window.specs.Window.{place}
use Rattle.window.specs.WindowLaws.{Lent, Inside}
use Rattle.window.specs.declared.WindowShape.{WindowShape}
use Rattle.decided.specs.Decided.{Position, position, Setting, decision_at, is_decided, decided, filters}
use Rattle.pass.specs.Pass.{line_of, step}

-- a list that holds each decided position once, nothing else, with edge numbers rising along each line across the edges
pub record WorkOrder (decided order : List Position) : Type 0 where
  pub each : (p : Position) → Memᴰ p decided → Memᴰ p order
  pub only : (p : Position) → Memᴰ p order → Memᴰ p decided
  pub once : Once order
  pub rising : (p q : Position) → Before p q order → p.i ≡ q.i → p.edge < q.edge

-- ---- the pass's own order is one: edge by edge, edge and i rising

Later : Position → Position → Type 0
Later p q = (p.edge < q.edge) ⊎ ((p.edge ≡ q.edge) × (p.i < q.i))

pub own_order : (t : Setting) (pass : Pass) → WorkOrder (decided t pass) (decided t pass)
unfolding decided Later
own_order t pass = record { each = λ p m. m; only = λ p m. m; once = λ p b. twice p (later p p b); rising = λ p q b e. omega (arith, line p q e (later p q b)) }
  where
    later : (p q : Position) → Before p q (decided t pass) → Later p q
    later p q b =
        grid_before position Later (λ e i j h. inr (refl, h)) (λ e f i j h. inl h) (edge_count t.superblock pass) (edge_len t.superblock pass)
        (select_before (is_decided t pass) (grid position (edge_count t.superblock pass) (edge_len t.superblock pass)) b)

    twice : (p : Position) → Later p p → ⊥
    twice p (inl k) = omega arith
    twice p (inr k) = omega arith

    line : (p q : Position) → p.i ≡ q.i → Later p q → p.edge < q.edge
    line p q e (inl k) = k
    line p q e (inr k) = absurd (omega arith)

-- ---- there are others: line by line

abbrev pub by_line : (i edge : ℕ) → Position
by_line i edge = position edge i

pub line_order : (t : Setting) (pass : Pass) → WorkOrder (decided t pass) (select (is_decided t pass) (grid by_line (edge_len t.superblock pass) (edge_count t.superblock pass)))
unfolding decided
line_order t pass = record { each = each; only = only; once = λ p b. twice p (later p p b); rising = λ p q b e. omega (arith, line p q e (later p q b)) }
  where
    n : ℕ
    n = edge_count t.superblock pass

    k : ℕ
    k = edge_len t.superblock pass

    test : Position → Bool
    test = is_decided t pass

    LaterLine : Position → Position → Type 0
    LaterLine p q = (p.i < q.i) ⊎ ((p.i ≡ q.i) × (p.edge < q.edge))

    later : (p q : Position) → Before p q (select test (grid by_line k n)) → LaterLine p q
    later p q b = grid_before by_line LaterLine (λ e i j h. inr (refl, h)) (λ e f i j h. inl h) k n (select_before test (grid by_line k n) b)

    each : (p : Position) → Memᴰ p (select test (grid position n k)) → Memᴰ p (select test (grid by_line k n))
    each p m =
        let c = grid_mem position n k (select_mem test (grid position n k) m) in
        mem_select test {l = grid by_line k n} (rw c.is (mem_grid by_line k n c.i c.e c.to (omega arith))) (select_passes test (grid position n k) m)

    only : (p : Position) → Memᴰ p (select test (grid by_line k n)) → Memᴰ p (select test (grid position n k))
    only p m =
        let c = grid_mem by_line k n (select_mem test (grid by_line k n) m) in
        mem_select test {l = grid position n k} (rw c.is (mem_grid position n k c.i c.e c.to (omega arith))) (select_passes test (grid by_line k n) m)

    twice : (p : Position) → LaterLine p p → ⊥
    twice p (inl h) = omega arith
    twice p (inr h) = omega arith

    line : (p q : Position) → p.i ≡ q.i → LaterLine p q → p.edge < q.edge
    line p q e (inl h) = absurd (omega arith)
    line p q e (inr h) = h.1

-- ---- positions on different lines meet nowhere

plane_line : (sub : Bool) (n i : ℕ) → shr (n * 8 + shl i sub) sub ≡ shr (n * 8) sub + i
plane_line true n i = omega arith
plane_line false n i = omega arith

lines_disjoint : (s : Superblock) (pass : Pass) (p q : Position) → p.i ≢ q.i → (x y : ℕ)
    → Reach pass (plane_x s pass p.edge p.i) (plane_y s pass p.edge p.i) x y → Reach pass (plane_x s pass q.edge q.i) (plane_y s pass q.edge q.i) x y → ⊥
unfolding plane_x plane_y luma_x luma_y
lines_disjoint s Vertical p q h x y u v =
    let a = plane_line s.suby s.row p.i in
    let b = plane_line s.suby s.row q.i in
    h (omega arith)
lines_disjoint s Horizontal p q h x y u v =
    let a = plane_line s.subx s.col p.i in
    let b = plane_line s.subx s.col q.i in
    h (omega arith)

module _ (g : WindowShape) (n : ℕ) (w : Lent g n) (t : Setting) (pass : Pass) where
  steps_exchange : (p q : Position) → p.i ≢ q.i → (samples : List ℕ) → step g t pass p (step g t pass q samples) ≡ step g t pass q (step g t pass p samples)
  unfolding step
  steps_exchange p q h samples =
      let d = decision_at t pass p in
      let e = decision_at t pass q in
      applied_exchange _ _ (reach_apart g n w pass _ _ _ _ (filters d) (filters e) (line_of t d) (line_of t e) (lines_disjoint t.superblock pass p q h)) samples

  -- so the order along each line is all that counts, and all orders of work share it
  pub orders_agree : (order order' : List Position) → WorkOrder (decided t pass) order → WorkOrder (decided t pass) order' → (samples : List ℕ)
      → run (step g t pass) order samples ≡ run (step g t pass) order' samples
  orders_agree order order' u v samples =
      same_run (step g t pass) order order' u.once v.once
      (record { there = λ p m. v.each p (u.only p m); back = λ p m. u.each p (v.only p m) })
      (λ p q b c. steps_exchange p q (crossed p q b c)) samples
    where
      crossed : (p q : Position) → Before p q order → Before q p order' → p.i ≢ q.i
      crossed p q b c e = omega (arith, u.rising p q b e, v.rising q p c (sym e))

  -- a lent sample that is not of the window is left
  pub steps_other : (order : List Position) (samples : List ℕ) (j d : ℕ) → ((x y : ℕ) → Inside g x y → j ≢ place g x y) → get_or (run (step g t pass) order samples) j d ≡ get_or samples j d
  unfolding step
  steps_other [] samples j d h = refl
  steps_other (p ∷ order) samples j d h =
      let e = decision_at t pass p in
      steps_other order (step g t pass p samples) j d h ∙ stencil_other g n w pass _ _ (filters e) (line_of t e) samples j d h

-- ---- CONDITION 3

-- the steps of this order end with the samples that the pass leaves, and change none that is not of the window
pub record SameEnd (g : WindowShape) (t : Setting) (pass : Pass) (samples result : List ℕ) (order : List Position) : Type 0 where
  pub same : run (step g t pass) order samples ≡ result
  pub as_long : length result ≡ length samples
  pub others : (j d : ℕ) → ((x y : ℕ) → Inside g x y → j ≢ place g x y) → get_or result j d ≡ get_or samples j d
