-- The tests of a line: 8.8.5.2. Each limit is handed over at the scale of the depth.
-- Assumes nothing.
use Rattle.std.specs.Prelude.{Bool, ◌&&◌, ◌||◌, List, ℕ, ◌+◌, ◌*◌, ◌/◌, leb, ltb}
use Rattle.base.specs.Notation.{abs_diff}
use Rattle.wide_filter.specs.Taps.{p, q}

-- high edge variance
unfoldable pub hev_mask : (thresh : ℕ) (t : List ℕ) → Bool
hev_mask thresh t = ltb thresh (abs_diff (p t 1) (p t 0)) || ltb thresh (abs_diff (q t 1) (q t 0))

unfoldable pub filter_mask : (limit blimit : ℕ) (t : List ℕ) → Bool
filter_mask limit blimit t =
    leb (abs_diff (p t 3) (p t 2)) limit
    && leb (abs_diff (p t 2) (p t 1)) limit
    && leb (abs_diff (p t 1) (p t 0)) limit
    && leb (abs_diff (q t 1) (q t 0)) limit
    && leb (abs_diff (q t 2) (q t 1)) limit
    && leb (abs_diff (q t 3) (q t 2)) limit
    && leb (abs_diff (p t 0) (q t 0) * 2 + abs_diff (p t 1) (q t 1) / 2) blimit

-- p_k is near p0, and q_k near q0
unfoldable pub flat_at : (one : ℕ) (t : List ℕ) (k : ℕ) → Bool
flat_at one t k = leb (abs_diff (p t k) (p t 0)) one && leb (abs_diff (q t k) (q t 0)) one

unfoldable pub flat_mask : (one : ℕ) (t : List ℕ) → Bool
flat_mask one t = flat_at one t 1 && flat_at one t 2 && flat_at one t 3

unfoldable pub flat_mask2 : (one : ℕ) (t : List ℕ) → Bool
flat_mask2 one t = flat_at one t 4 && flat_at one t 5 && flat_at one t 6 && flat_at one t 7
