-- The limit of a level without signs: a level shifted, at most the greatest limit and at least 1.
-- Assumes nothing.
use Rattle.std.specs.Prelude.{cond, ℕ, ◌-◌, eqb}

-- the greatest limit at a sharpness
abbrev pub top_limit : (sharpness : ℕ) → ℕ
top_limit sharpness = cond (eqb sharpness 0) 63 (9 - sharpness)
