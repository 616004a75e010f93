-- The narrow filter's values (8.8.5.4) without a sign: each is raised by half its range. s is the scale of the depth, so a
-- sample's half range is 128 s, and that of a value shifted by 3 is 16 s.
-- Assumes nothing.
use Rattle.std.specs.Prelude.{Bool, cond, List, ℕ, ◌+◌, ◌-◌, ◌*◌, ◌/◌, min, set}
use Rattle.wide_filter.specs.Taps.{p, q}

-- base after step 2, and filter after step 3, raised by 128 s
unfoldable pub raised_base : (s : ℕ) (hev : Bool) (p1 q1 : ℕ) → ℕ
raised_base s hev p1 q1 = cond hev (min (p1 + 128 * s - q1) (256 * s - 1)) (128 * s)

unfoldable pub raised_filter : (s base p0 q0 : ℕ) → ℕ
raised_filter s base p0 q0 = min (base + 3 * q0 - 3 * p0) (256 * s - 1)

-- c( filter + n ) >> 3, raised by 16 s
unfoldable pub raised_eighth : (s filter n : ℕ) → ℕ
raised_eighth s filter n = min (filter + n) (256 * s - 1) / 8

-- Round2( filter, 1 ), raised by half as much as filter
abbrev pub raised_half : (filter : ℕ) → ℕ
raised_half filter = (filter + 1) / 2

-- a sample with a value that is raised by k added, or taken away
unfoldable pub increased : (s x value k : ℕ) → ℕ
increased s x value k = min (x + value - k) (256 * s - 1)

unfoldable pub decreased : (s x value k : ℕ) → ℕ
decreased s x value k = min (x + k - value) (256 * s - 1)

-- the filter by these
abbrev pub raised_narrow : (s : ℕ) (hev : Bool) (t : List ℕ) → List ℕ
raised_narrow s hev t =
    let filter = raised_filter s (raised_base s hev (p t 1) (q t 1)) (p t 0) (q t 0) in
    let filter1 = raised_eighth s filter 4 in
    let filter2 = raised_eighth s filter 3 in
    let inner = set (set t 8 (decreased s (q t 0) filter1 (16 * s))) 7 (increased s (p t 0) filter2 (16 * s)) in
    let rounded = raised_half filter1 in
    cond hev inner (set (set inner 9 (decreased s (q t 1) rounded (8 * s))) 6 (increased s (p t 1) rounded (8 * s)))
