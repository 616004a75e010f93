-- The window of a plane, document 01's rules at its border, and the stencil of a position.
-- Assumes nothing.
use Rattle.std.specs.Prelude.{Bool, true, ◌&&◌, ◌||◌, List, ℕ, ◌+◌, ◌-◌, ◌*◌, ◌/◌, ◌%◌, min, max, eqb, leb, ltb, get_or}
use Rattle.geometry.specs.declared.Pass.{Pass}
use Rattle.geometry.specs.declared.Pass.TheVariants.{Vertical, Horizontal}
use Rattle.window.specs.Stencil.{Stencil}
use Rattle.window.specs.declared.WindowShape.{WindowShape}

-- 12: width 1 to 65,536, height at least 1, y origin plus height at most 65,536, stride from width to 131,072, and samples lent to
-- the end of the last row
unfoldable pub bad_window : WindowShape → (lent : ℕ) → Bool
bad_window g lent =
    eqb g.width 0 || ltb 65536 g.width || eqb g.height 0 || ltb 65536 (g.top + g.height)
    || ltb g.stride g.width || ltb 131072 g.stride
    || ltb lent ((g.height - 1) * g.stride + g.width)

-- 13: the window's sample at row k / width and column k % width is not below the bound
abbrev pub reaches : (bound : ℕ) (samples : List ℕ) (start k : ℕ) → Bool
reaches bound samples start k = leb bound (get_or samples (start + k) 0)

unfoldable pub bad_sample : WindowShape → (bound : ℕ) (samples : List ℕ) (k : ℕ) → Bool
bad_sample g bound samples k = reaches bound samples (k / g.width * g.stride) (k % g.width)

-- the place in the lent list of the plane's sample (x, y)
abbrev pub place : WindowShape → (x y : ℕ) → ℕ
place g x y = (y - g.top) * g.stride + x

-- v brought into the n numbers from lo on
abbrev pub clamp : (lo n v : ℕ) → ℕ
clamp lo n v = max lo (min (lo + n - 1) v)

-- v is one of the n numbers from lo on
abbrev pub among : (lo n v : ℕ) → Bool
among lo n v = leb lo v && ltb v (lo + n)

-- The taps of the line whose q0 is at (x, y): tap k is 8 - k samples before q0 across the edge. Coordinates are raised by 8, so that
-- none is below 0.
abbrev pub tap_x : Pass → (x k : ℕ) → ℕ
tap_x Vertical x k = x + k
tap_x Horizontal x k = x + 8

abbrev pub tap_y : Pass → (y k : ℕ) → ℕ
tap_y Vertical y k = y + 8
tap_y Horizontal y k = y + k

-- reads past the window clamp to its border
abbrev pub tap_read : WindowShape → Pass → (x y k : ℕ) → ℕ
tap_read g pass x y k = place g (clamp 0 g.width (tap_x pass x k - 8)) (clamp g.top g.height (tap_y pass y k - 8))

-- writes past it are dropped
abbrev pub tap_stored : WindowShape → Pass → (x y k : ℕ) → Bool
tap_stored g pass x y k = among 8 g.width (tap_x pass x k) && among (8 + g.top) g.height (tap_y pass y k)

abbrev pub tap_written : WindowShape → Pass → (x y k : ℕ) → ℕ
tap_written g pass x y k = place g (tap_x pass x k - 8) (tap_y pass y k - 8)

-- the position whose q0 is at (x, y); where it does not filter, nothing is stored
abbrev pub stencil : WindowShape → Pass → (x y : ℕ) (filters : Bool) → (List ℕ → List ℕ) → Stencil
stencil g pass x y filters line =
    record { reads = tap_read g pass x y; stored = λ k. filters && tap_stored g pass x y k; writes = tap_written g pass x y; line = line }

-- k positions along the edge from (x, y)
abbrev pub along_x : Pass → (x k : ℕ) → ℕ
along_x Vertical x k = x
along_x Horizontal x k = x + k

abbrev pub along_y : Pass → (y k : ℕ) → ℕ
along_y Vertical y k = y + k
along_y Horizontal y k = y

-- positions along an edge from (x, y) on, each by a line filter of its own
abbrev pub lines_of : WindowShape → Pass → (x y : ℕ) (on : ℕ → Bool) → (lines : ℕ → List ℕ → List ℕ) → (k : ℕ) → Stencil
lines_of g pass x y on lines k = stencil g pass (along_x pass x k) (along_y pass y k) (on k) (lines k)

-- the positions of a run, by one line filter
abbrev pub run_of : WindowShape → Pass → (x y : ℕ) → (List ℕ → List ℕ) → (k : ℕ) → Stencil
run_of g pass x y line k = lines_of g pass x y (λ _. true) (λ _. line) k
