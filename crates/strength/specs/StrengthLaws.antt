-- Laws of the strength for its users.
-- Assumes nothing.
use Rattle.std.specs.Prelude.{◌≡◌, refl, Bool, true, false, cond, ◌||◌, List, ℕ, ◌+◌, ◌-◌, ◌*◌, ◌/◌, ◌≤◌, ◌<◌, max, eqb, ltb, pos, nat_abs, length, get_or}
use Rattle.std.proofs.Common.{div-le_self, arith}
use Rattle.base.specs.Notation.{clip3}
use Rattle.base.specs.NotationLaws.{clip_below}
use Rattle.strength.specs.Strength.{mode_type, limit_of}

-- a mode type is 0 or 1
pub mode_type_small : (mode : ℕ) → mode_type mode < 2
unfolding mode_type
mode_type_small mode = cases (eqb mode 10 || eqb mode 11 || eqb mode 13)
  where
    cases : (t : Bool) → cond t 1 0 < 2
    cases true = omega arith
    cases false = omega arith

-- a limit is at most 63
pub limit_small : (lvl sharpness : ℕ) → lvl ≤ 63 → limit_of lvl sharpness ≤ 63
unfolding limit_of
limit_small lvl sharpness h = cases (ltb 0 sharpness) refl
  where
    shifted : (n : ℕ) → max 1 (lvl / n) ≤ 63
    shifted n = omega (arith, div-le_self lvl n)

    clipped : (n : ℕ) → nat_abs (clip3 (pos 1) (pos (9 - sharpness)) (pos n)) ≤ 63
    clipped n = clip_below 1 (9 - sharpness) 63 (pos n) (omega arith) (omega arith)

    cases : (t : Bool) → ltb 0 sharpness ≡ t → limit_of lvl sharpness ≤ 63
    cases true e = rw e (clipped _)
    cases false e = rw e (shifted _)

-- the 512 limits, at sharpness times 64 plus level
pub record Limits (l : List ℕ) : Type 0 where
  pub long : length l ≡ 512
  pub limit : (lvl sharpness : ℕ) → lvl ≤ 63 → sharpness ≤ 7 → get_or l (sharpness * 64 + lvl) 0 ≡ limit_of lvl sharpness
