-- Shifts by a subsampling, which is 0 or 1 and stands as a flag.
-- Assumes nothing.
use Rattle.std.specs.Prelude.{Bool, cond, ℕ, ◌*◌, ◌/◌}

-- n << sub
abbrev pub shl : ℕ → Bool → ℕ
shl n sub = cond sub (2 * n) n

-- n >> sub
abbrev pub shr : ℕ → Bool → ℕ
shr n sub = cond sub (n / 2) n
