-- The mathematical functions of VP9-S on integers, as the loop filter uses them.
-- Assumes nothing.
use Rattle.std.specs.Prelude.{cond, ℕ, ◌+◌, ◌-◌, ◌*◌, ◌/◌, ◌^◌, ℤ, pos, ◌+ℤ◌, ◌*ℤ◌}
use Rattle.std.specs.Int.Signed.{lt_z, shr_z}

-- Clip3( lo, hi, v )
unfoldable pub clip3 : ℤ → ℤ → ℤ → ℤ
clip3 lo hi v = cond (lt_z v lo) lo (cond (lt_z hi v) hi v)

-- v << n and v >> n for a number
infixl 60 ◌<<◌ ◌>>◌
abbrev pub ◌<<◌ : ℕ → ℕ → ℕ
v << n = v * 2 ^ n

abbrev pub ◌>>◌ : ℕ → ℕ → ℕ
v >> n = v / 2 ^ n

-- v << n for an integer
abbrev pub shl_z : ℤ → ℕ → ℤ
shl_z v n = v *ℤ pos (2 ^ n)

-- v >> n for an integer: a negative one is rounded down too
abbrev pub asr_z : ℤ → ℕ → ℤ
asr_z v n = shr_z v (2 ^ n)

-- Abs( a - b ) for two samples
abbrev pub abs_diff : ℕ → ℕ → ℕ
abs_diff a b = (a - b) + (b - a)

-- Round2( v, n ) for a number, and for an integer
abbrev pub round2 : ℕ → ℕ → ℕ
round2 v n = (v + 2 ^ (n - 1)) / 2 ^ n

abbrev pub round2_z : ℤ → ℕ → ℤ
round2_z v n = shr_z (v +ℤ pos (2 ^ (n - 1))) (2 ^ n)
