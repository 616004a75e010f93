-- The strength of a filter level: 8.8.4.
-- Assumes nothing.
use Rattle.std.specs.Prelude.{cond, ◌||◌, ℕ, ◌+◌, ◌-◌, ◌*◌, ◌/◌, ◌^◌, max, eqb, ltb, pos, nat_abs}
use Rattle.base.specs.Notation.{clip3}
use Rattle.base.specs.Outcome.{Outcome, accepted, refuse}
use Rattle.strength.specs.declared.FilterStrength.{FilterStrength}

-- modeType: 1 for NEARESTMV, NEARMV and NEWMV
unfoldable pub mode_type : ℕ → ℕ
mode_type mode = cond (eqb mode 10 || eqb mode 11 || eqb mode 13) 1 0

-- step 2
abbrev pub shift : ℕ → ℕ
shift sharpness = cond (ltb 4 sharpness) 2 (cond (ltb 0 sharpness) 1 0)

-- step 3
unfoldable pub limit_of : ℕ → ℕ → ℕ
limit_of lvl sharpness =
    cond (ltb 0 sharpness)
    (nat_abs (clip3 (pos 1) (pos (9 - sharpness)) (pos (lvl / 2 ^ shift sharpness))))
    (max 1 (lvl / 2 ^ shift sharpness))

-- steps 3 to 5
unfoldable pub strength_of : ℕ → ℕ → FilterStrength
strength_of lvl sharpness =
    record { lvl = lvl; limit = limit_of lvl sharpness; blimit = 2 * (lvl + 2) + limit_of lvl sharpness; thresh = lvl / 16 }

-- document 01's operation: 1 for a sharpness above 7, 6 for a level above 63
unfoldable pub strength_for : ℕ → ℕ → Outcome FilterStrength
strength_for lvl sharpness =
    refuse (ltb 7 sharpness) 1 0 (refuse (ltb 63 lvl) 6 0 (accepted (strength_of lvl sharpness)))
