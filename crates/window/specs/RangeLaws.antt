-- Samples in range stay in range: a position whose line filter keeps taps below a bound keeps the window's samples below it.
-- Assumes nothing.
use Rattle.std.specs.Prelude.{◌≡◌, Bool, true, false, List, ℕ, zero, suc, ◌+◌, ◌-◌, ◌*◌, ◌≤◌, ◌<◌, get_or}
use Rattle.std.proofs.Common.{sym, ◌∙◌, suc-mul, mul-le-mul_right, zero-add, arith, leb-false}
use Rattle.base.specs.Filled.{set_below}
use Rattle.base.specs.First.{found, found-false}
use Rattle.geometry.specs.declared.Pass.{Pass}
use Rattle.window.specs.Stencil.{taps, put, scatter, applied}
use Rattle.window.specs.StencilLaws.{gather_at}
use Rattle.window.specs.SampleLaws.{in_row}
use Rattle.window.specs.Window.{bad_sample, place, stencil, tap_x, tap_y}
use Rattle.window.specs.WindowLaws.{Inside, clamp_inside}
use Rattle.window.specs.declared.WindowShape.{WindowShape}

-- every sample of the window is below the bound
pub record InRange (g : WindowShape) (bound : ℕ) (samples : List ℕ) : Type 0 where
  pub below : (x y : ℕ) → Inside g x y → get_or samples (place g x y) 0 < bound

-- where test 13 finds none that is not
pub tested_range : (g : WindowShape) (bound : ℕ) (samples : List ℕ) → found (bad_sample g bound samples) (g.height * g.width) ≡ false → InRange g bound samples
tested_range g bound samples e = record { below = below }
  where
    below : (x y : ℕ) → Inside g x y → get_or samples (place g x y) 0 < bound
    below x y i =
        let row = y - g.top in
        let h : suc row ≤ g.height = omega (arith, i.above, i.below) in
        let end : row * g.width + x < g.height * g.width = omega (arith, i.right, suc-mul row g.width, mul-le-mul_right g.width h) in
        leb-false bound (get_or samples (place g x y) 0) (sym (in_row g bound samples row x i.right) ∙ found-false (bad_sample g bound samples) (g.height * g.width) e (row * g.width + x) end)

-- a line filter that keeps 16 taps below the bound
pub record Keeps (bound : ℕ) (line : List ℕ → List ℕ) : Type 0 where
  pub keep : (t : List ℕ) → ((k : ℕ) → k < 16 → get_or t k 0 < bound) → (k : ℕ) → k < 16 → get_or (line t) k 0 < bound

put-below : (bound : ℕ) (b : Bool) (i v : ℕ) (w : List ℕ) (j : ℕ) → v < bound → get_or w j 0 < bound → get_or (put b i v w) j 0 < bound
put-below bound true i v w j h l = set_below bound w i v j h l
put-below bound false i v w j h l = l

scatter-below : (bound : ℕ) (stored : ℕ → Bool) (writes sample : ℕ → ℕ) (n : ℕ) (w : List ℕ) (j : ℕ) → ((k : ℕ) → k < n → sample k < bound) → get_or w j 0 < bound
    → get_or (scatter stored writes sample n w) j 0 < bound
unfolding scatter
scatter-below bound stored writes sample zero w j h l = l
scatter-below bound stored writes sample (suc n) w j h l =
    put-below bound (stored n) (writes n) (sample n) (scatter stored writes sample n w) j (h n (omega arith)) (scatter-below bound stored writes sample n w j (λ k q. h k (omega arith)) l)

pub position_range : (g : WindowShape) (bound : ℕ) (pass : Pass) (x y : ℕ) (filters : Bool) (line : List ℕ → List ℕ) (samples : List ℕ) → 0 < g.width → 0 < g.height
    → Keeps bound line → InRange g bound samples → InRange g bound (applied (stencil g pass x y filters line) samples)
unfolding applied
position_range g bound pass x y filters line samples wide tall keeps r =
    record { below = λ x' y' i. scatter-below bound _ _ _ 16 samples (place g x' y') (keeps.keep _ tap) (r.below x' y' i) }
  where
    tap : (k : ℕ) → k < 16 → get_or (taps (stencil g pass x y filters line) samples) k 0 < bound
    tap k l =
        rw (gather_at (stencil g pass x y filters line).reads 0 16 samples k l, zero-add k)
        (r.below _ _ (clamp_inside g wide tall (tap_x pass x k - 8) (tap_y pass y k - 8)))

pub range_wider : (g : WindowShape) (bound wider : ℕ) (samples : List ℕ) → bound ≤ wider → InRange g bound samples → InRange g wider samples
range_wider g bound wider samples h r = record { below = λ x y i. omega (arith, r.below x y i) }
