-- Runs whose taps are all in the window: they need no clamps and no tests.
-- Assumes nothing.
use Rattle.std.specs.Prelude.{◌≡◌, refl, Bool, true, false, ◌&&◌, List, ℕ, ◌+◌, ◌-◌, ◌*◌, ◌≤◌, ◌<◌, T, leb}
use Rattle.std.proofs.Common.{sym, ap, ◌∙◌, subst, add-mul, arith, leb-true}
use Rattle.base.specs.Tests.{both}
use Rattle.geometry.specs.declared.Pass.{Pass}
use Rattle.geometry.specs.declared.Pass.TheVariants.{Vertical, Horizontal}
use Rattle.window.specs.Reach.{stencil_idle}
use Rattle.window.specs.Stencil.{Stencil, applied, in_turn}
use Rattle.window.specs.StencilLaws.{applied_same, applied_kept, in_turn_same}
use Rattle.window.specs.Window.{place, clamp, tap_read, tap_stored, tap_written, stencil, along_x, along_y, lines_of, run_of}
use Rattle.window.specs.WindowLaws.{Inside, among_yes}
use Rattle.window.specs.declared.WindowShape.{WindowShape}

-- all taps of n positions from (x, y) on are in the window
abbrev pub inside_run : WindowShape → Pass → (x y n : ℕ) → Bool
inside_run g Vertical x y n = leb 8 x && leb (x + 8) g.width && leb g.top y && leb (y + n) (g.top + g.height)
inside_run g Horizontal x y n = leb (x + n) g.width && leb (g.top + 8) y && leb (y + 8) (g.top + g.height)

-- the place of p7 at (x, y), how far taps are apart, and how far positions
abbrev pub first_tap : WindowShape → Pass → (x y : ℕ) → ℕ
first_tap g Vertical x y = place g (x - 8) y
first_tap g Horizontal x y = place g x (y - 8)

abbrev pub tap_step : WindowShape → Pass → ℕ
tap_step g Vertical = 1
tap_step g Horizontal = g.stride

abbrev pub along_step : WindowShape → Pass → ℕ
along_step g Vertical = g.stride
along_step g Horizontal = 1

-- 16 taps from a place on, all of them stored
abbrev pub plain : (at step : ℕ) → (List ℕ → List ℕ) → Stencil
plain at step line = record { reads = λ k. at + k * step; stored = λ k. true; writes = λ k. at + k * step; line = line }

-- positions that stand `along` apart, each by a line filter of its own, and by one
abbrev pub plain_lines : (at step along : ℕ) → (lines : ℕ → List ℕ → List ℕ) → (k : ℕ) → Stencil
plain_lines at step along lines k = plain (at + k * along) step (lines k)

abbrev pub plain_run : (at step along : ℕ) → (List ℕ → List ℕ) → (k : ℕ) → Stencil
plain_run at step along line k = plain_lines at step along (λ _. line) k

abbrev pub InsideRun : WindowShape → Pass → (x y n : ℕ) → Type 0
InsideRun g Vertical x y n = (8 ≤ x) × (x + 8 ≤ g.width) × (g.top ≤ y) × (y + n ≤ g.top + g.height)
InsideRun g Horizontal x y n = (x + n ≤ g.width) × (g.top + 8 ≤ y) × (y + 8 ≤ g.top + g.height)

pub inside_run_lem : (g : WindowShape) (pass : Pass) (x y n : ℕ) → inside_run g pass x y n ≡ true → InsideRun g pass x y n
inside_run_lem g Vertical x y n e =
    let a = both (leb 8 x && leb (x + 8) g.width && leb g.top y) (leb (y + n) (g.top + g.height)) e in
    let b = both (leb 8 x && leb (x + 8) g.width) (leb g.top y) a.0 in
    let c = both (leb 8 x) (leb (x + 8) g.width) b.0 in
    (leb-true _ _ c.0, leb-true _ _ c.1, leb-true _ _ b.1, leb-true _ _ a.1)
inside_run_lem g Horizontal x y n e =
    let a = both (leb (x + n) g.width && leb (g.top + 8) y) (leb (y + 8) (g.top + g.height)) e in
    let b = both (leb (x + n) g.width) (leb (g.top + 8) y) a.0 in
    (leb-true _ _ b.0, leb-true _ _ b.1, leb-true _ _ a.1)

-- k rows down
rows_down : (g : WindowShape) (x y k : ℕ) → g.top ≤ y → place g x (y + k) ≡ place g x y + k * g.stride
rows_down g x y k h =
    let m : y + k - g.top ≡ (y - g.top) + k = omega arith in
    ap (λ (n : ℕ). n * g.stride + x) m ∙ omega (arith, add-mul (y - g.top) k g.stride)

module _ (g : WindowShape) (x y n k j : ℕ) (l : k < n) (m : j < 16) where
  -- tap j of position k of a run inside the window is at its own place
  vertical_place : InsideRun g Vertical x y n → place g (x + j - 8) (y + k + 8 - 8) ≡ first_tap g Vertical x y + k * g.stride + j * 1
  vertical_place h =
      let a : x + j - 8 ≡ x - 8 + j = omega arith in
      let b : y + k + 8 - 8 ≡ y + k = omega arith in
      (λ i. place g (a i) (b i)) ∙ omega (arith, rows_down g (x - 8) y k h.2)

  horizontal_place : InsideRun g Horizontal x y n → place g (x + k + 8 - 8) (y + j - 8) ≡ first_tap g Horizontal x y + k * 1 + j * g.stride
  horizontal_place h =
      let a : x + k + 8 - 8 ≡ x + k = omega arith in
      let b : y + j - 8 ≡ y - 8 + j = omega arith in
      (λ i. place g (a i) (b i)) ∙ omega (arith, rows_down g x (y - 8) j (omega arith))

  run_written : (pass : Pass) → InsideRun g pass x y n → tap_written g pass (along_x pass x k) (along_y pass y k) j ≡ first_tap g pass x y + k * along_step g pass + j * tap_step g pass
  run_written Vertical h = vertical_place h
  run_written Horizontal h = horizontal_place h

  run_read : (pass : Pass) → InsideRun g pass x y n → tap_read g pass (along_x pass x k) (along_y pass y k) j ≡ first_tap g pass x y + k * along_step g pass + j * tap_step g pass
  run_read Vertical h =
      let a : clamp 0 g.width (x + j - 8) ≡ x + j - 8 = omega arith in
      let b : clamp g.top g.height (y + k + 8 - 8) ≡ y + k + 8 - 8 = omega arith in
      (λ i. place g (a i) (b i)) ∙ vertical_place h
  run_read Horizontal h =
      let a : clamp 0 g.width (x + k + 8 - 8) ≡ x + k + 8 - 8 = omega arith in
      let b : clamp g.top g.height (y + j - 8) ≡ y + j - 8 = omega arith in
      (λ i. place g (a i) (b i)) ∙ horizontal_place h

  run_stored : (pass : Pass) → InsideRun g pass x y n → tap_stored g pass (along_x pass x k) (along_y pass y k) j ≡ true
  run_stored Vertical h = rw (among_yes 8 g.width (x + j) (omega arith) (omega arith), among_yes (8 + g.top) g.height (y + k + 8) (omega arith) (omega arith))
  run_stored Horizontal h = rw (among_yes 8 g.width (x + k + 8) (omega arith) (omega arith), among_yes (8 + g.top) g.height (y + j) (omega arith) (omega arith))

-- so positions inside the window need no clamps and no tests: one that does not filter may store what it read
pub lines-plain : (g : WindowShape) (pass : Pass) (x y n : ℕ) (on : ℕ → Bool) (lines : ℕ → List ℕ → List ℕ) (w : List ℕ)
    → ((k : ℕ) → on k ≡ false → (t : List ℕ) → lines k t ≡ t) → inside_run g pass x y n ≡ true
    → in_turn (plain_lines (first_tap g pass x y) (tap_step g pass) (along_step g pass) lines) n w ≡ in_turn (lines_of g pass x y on lines) n w
lines-plain g pass x y n on lines w off e =
    in_turn_same _ (lines_of g pass x y on lines) n w (λ k l u. one k l u (on k) (off k))
  where
    one : (k : ℕ) → k < n → (u : List ℕ) (b : Bool) → (b ≡ false → (t : List ℕ) → lines k t ≡ t)
        → applied (plain_lines (first_tap g pass x y) (tap_step g pass) (along_step g pass) lines k) u ≡ applied (stencil g pass (along_x pass x k) (along_y pass y k) b (lines k)) u
    one k l u true keep =
        let h = inside_run_lem g pass x y n e in
        applied_same _ (stencil g pass (along_x pass x k) (along_y pass y k) true (lines k)) u refl
        (λ j m. sym (run_read g x y n k j l m pass h)) (λ j m. sym (run_stored g x y n k j l m pass h)) (λ j m. sym (run_written g x y n k j l m pass h))
    one k l u false keep =
        applied_kept _ u (λ j m. refl) (keep refl) ∙ sym (stencil_idle g pass (along_x pass x k) (along_y pass y k) false (lines k) u refl)

pub run_plain : (g : WindowShape) (pass : Pass) (x y n : ℕ) (line : List ℕ → List ℕ) (w : List ℕ) → inside_run g pass x y n ≡ true
    → in_turn (plain_run (first_tap g pass x y) (tap_step g pass) (along_step g pass) line) n w ≡ in_turn (run_of g pass x y line) n w
run_plain g pass x y n line w e = lines-plain g pass x y n (λ _. true) (λ _. line) w (λ k d t. absurd (subst T d tt)) e

-- tap j of position k is a sample of the window
pub record RunTap (g : WindowShape) (pass : Pass) (x y k j : ℕ) : Type 0 where
  pub x' : ℕ
  pub y' : ℕ
  pub inside : Inside g x' y'
  pub is : first_tap g pass x y + k * along_step g pass + j * tap_step g pass ≡ place g x' y'

pub run_tap : (g : WindowShape) (pass : Pass) (x y n k j : ℕ) → inside_run g pass x y n ≡ true → k < n → j < 16 → RunTap g pass x y k j
run_tap g Vertical x y n k j e l m =
    let h = inside_run_lem g Vertical x y n e in
    record { x' = x - 8 + j; y' = y + k; inside = record { right = omega arith; above = omega arith; below = omega arith }; is = omega (arith, rows_down g (x - 8) y k h.2) }
run_tap g Horizontal x y n k j e l m =
    let h = inside_run_lem g Horizontal x y n e in
    record { x' = x + k; y' = y - 8 + j; inside = record { right = omega arith; above = omega arith; below = omega arith }; is = omega (arith, rows_down g x (y - 8) j (omega arith)) }
