-- How far a position reaches: it reads and stores within its own line of the window, or stores nothing. Positions whose lines do not
-- meet can be exchanged (`reach_apart`), and samples outside the window are left (`stencil_other`).
-- Assumes nothing.
use Rattle.std.specs.Prelude.{◌≡◌, refl, ◌≢◌, Bool, true, false, List, ℕ, ◌+◌, ◌-◌, ◌≤◌, ◌<◌, get_or}
use Rattle.std.proofs.Common.{sym, ◌∙◌, subst, arith}
use Rattle.base.specs.First.{found_none, first_is}
use Rattle.base.specs.Tests.{both}
use Rattle.geometry.specs.declared.Pass.{Pass}
use Rattle.geometry.specs.declared.Pass.TheVariants.{Vertical, Horizontal}
use Rattle.window.specs.Stencil.{Stencil, applied}
use Rattle.window.specs.StencilLaws.{live, Apart, applied_other, applied_idle}
use Rattle.window.specs.Window.{place, clamp, tap_x, tap_y, tap_stored, stencil}
use Rattle.window.specs.WindowLaws.{Lent, Inside, place_unique, clamp_inside, Tap, tap_in, tap_inside}
use Rattle.window.specs.declared.WindowShape.{WindowShape}

-- the samples (x', y') from the first tap of the position at (x, y) to its last
pub record Reach (pass : Pass) (x y x' y' : ℕ) : Type 0 where
  pub x_low : tap_x pass x 0 ≤ x' + 8
  pub x_high : x' + 8 ≤ tap_x pass x 15
  pub y_low : tap_y pass y 0 ≤ y' + 8
  pub y_high : y' + 8 ≤ tap_y pass y 15

-- a place that is of the window and within reach
record Touch (g : WindowShape) (pass : Pass) (x y i : ℕ) : Type 0 where
  pub x' : ℕ
  pub y' : ℕ
  pub inside : Inside g x' y'
  pub reach : Reach pass x y x' y'
  pub is : i ≡ place g x' y'

tap-reach : (g : WindowShape) (pass : Pass) (x y k : ℕ) → k < 16 → Tap g (tap_x pass x k) (tap_y pass y k) → Reach pass x y (tap_x pass x k - 8) (tap_y pass y k - 8)
tap-reach g Vertical x y k l t = record { x_low = omega arith; x_high = omega arith; y_low = omega arith; y_high = omega arith }
tap-reach g Horizontal x y k l t = record { x_low = omega arith; x_high = omega arith; y_low = omega arith; y_high = omega arith }

-- a read stays within reach, where some tap is of the window
clamp-reach : (g : WindowShape) (pass : Pass) (x y k j : ℕ) → k < 16 → j < 16 → Tap g (tap_x pass x j) (tap_y pass y j)
    → Reach pass x y (clamp 0 g.width (tap_x pass x k - 8)) (clamp g.top g.height (tap_y pass y k - 8))
clamp-reach g Vertical x y k j l m t = record { x_low = omega arith; x_high = omega arith; y_low = omega arith; y_high = omega arith }
clamp-reach g Horizontal x y k j l m t = record { x_low = omega arith; x_high = omega arith; y_low = omega arith; y_high = omega arith }

module _ (g : WindowShape) (n : ℕ) (w : Lent g n) (pass : Pass) (x y : ℕ) (filters : Bool) (line : List ℕ → List ℕ) where
  abbrev here : Stencil
  here = stencil g pass x y filters line

  stored-tap : (k : ℕ) → here.stored k ≡ true → Tap g (tap_x pass x k) (tap_y pass y k)
  stored-tap k t = tap_in g (tap_x pass x k) (tap_y pass y k) (both filters (tap_stored g pass x y k) t).1

  stores : (k : ℕ) → k < 16 → here.stored k ≡ true → Touch g pass x y (here.writes k)
  stores k l t = record {
    x' = tap_x pass x k - 8;
    y' = tap_y pass y k - 8;
    inside = tap_inside g (tap_x pass x k) (tap_y pass y k) (stored-tap k t);
    reach = tap-reach g pass x y k l (stored-tap k t);
    is = refl;
  }

  reads : live here ≡ true → (k : ℕ) → k < 16 → Touch g pass x y (here.reads k)
  reads t k l =
      let f = first_is here.stored 16 t in
      record {
        x' = clamp 0 g.width (tap_x pass x k - 8);
        y' = clamp g.top g.height (tap_y pass y k - 8);
        inside = clamp_inside g w.wide w.tall (tap_x pass x k - 8) (tap_y pass y k - 8);
        reach = clamp-reach g pass x y k _ l f.to (stored-tap _ f.holds);
        is = refl;
      }

  -- a lent sample that is not of the window is left
  pub stencil_other : (u : List ℕ) (j d : ℕ) → ((x' y' : ℕ) → Inside g x' y' → j ≢ place g x' y') → get_or (applied here u) j d ≡ get_or u j d
  unfolding stores
  stencil_other u j d h = applied_other here u j d (λ k l t. let s = stores k l t in h s.x' s.y' s.inside)

-- a position that does not filter does nothing
pub stencil_idle : (g : WindowShape) (pass : Pass) (x y : ℕ) (filters : Bool) (line : List ℕ → List ℕ) (u : List ℕ) → filters ≡ false → applied (stencil g pass x y filters line) u ≡ u
stencil_idle g pass x y filters line u e = applied_idle (stencil g pass x y filters line) u (found_none _ 16 (λ k l. rw e))

-- two positions whose reaches do not meet
pub reach_apart : (g : WindowShape) (n : ℕ) → Lent g n → (pass : Pass) (x y x' y' : ℕ) (filters filters' : Bool) (line line' : List ℕ → List ℕ)
    → ((a b : ℕ) → Reach pass x y a b → Reach pass x' y' a b → ⊥)
    → Apart (stencil g pass x y filters line) (stencil g pass x' y' filters' line')
reach_apart g n w pass x y x' y' filters filters' line line' h = record {
  reads = λ t k j l m u. touch (reads g n w pass x y filters line t k l) (stores g n w pass x' y' filters' line' j m u);
  read = λ t k j l m u e. touch (stores g n w pass x y filters line j m u) (reads g n w pass x' y' filters' line' t k l) (sym e);
  stores = λ k j l m t u. touch (stores g n w pass x y filters line k l t) (stores g n w pass x' y' filters' line' j m u);
}
  where
    touch : {i j : ℕ} → Touch g pass x y i → Touch g pass x' y' j → i ≢ j
    touch p q e =
        let u = place_unique g w.rows p.x' p.y' q.x' q.y' p.inside q.inside (sym p.is ∙ e ∙ q.is) in
        h q.x' q.y'
        (subst (λ (a : ℕ). Reach pass x y a q.y') u.0 (subst (λ (b : ℕ). Reach pass x y p.x' b) u.1 p.reach))
        q.reach
