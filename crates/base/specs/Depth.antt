-- The bit depths of VP9, and what holds at each of them.
-- Assumes nothing.
use Rattle.std.specs.Prelude.{◌≡◌, refl, Bool, true, false, ◌||◌, ℕ, ◌-◌, ◌*◌, ◌^◌, ◌≤◌, ◌<◌, T, eqb}
use Rattle.std.proofs.Common.{sym, subst, arith, eqb→eq}

unfoldable pub supported : ℕ → Bool
supported depth = eqb depth 8 || eqb depth 10 || eqb depth 12

-- v << (B - 8): a number at the scale of the depth
abbrev pub scaled : ℕ → ℕ → ℕ
scaled B v = v * 2 ^ (B - 8)

-- the depth, its scale, half the range of a sample and the whole of it
pub record Scaled (B : ℕ) : Type 0 where
  pub low : 8 ≤ B
  pub high : B ≤ 12
  pub some : 0 < 2 ^ (B - 8)
  pub small : 2 ^ (B - 8) ≤ 16
  pub half : 2 ^ (B - 1) ≡ 128 * 2 ^ (B - 8)
  pub range : 2 ^ B ≡ 256 * 2 ^ (B - 8)

-- proofs tell the three apart here and nowhere else
pub depth_scaled : (B : ℕ) → supported B ≡ true → Scaled B
unfolding supported
depth_scaled B h = cases (eqb B 8) (eqb B 10) (eqb B 12) refl refl refl h
  where
    is : (d : ℕ) → eqb B d ≡ true → Scaled d → Scaled B
    is d e s = subst Scaled (sym (eqb→eq B d (rw e tt))) s

    cases : (a b d : Bool) → eqb B 8 ≡ a → eqb B 10 ≡ b → eqb B 12 ≡ d → a || b || d ≡ true → Scaled B
    cases true b d e f g h = is 8 e (record { low = omega arith; high = omega arith; some = omega arith; small = omega arith; half = refl; range = refl })
    cases false true d e f g h = is 10 f (record { low = omega arith; high = omega arith; some = omega arith; small = omega arith; half = refl; range = refl })
    cases false false true e f g h = is 12 g (record { low = omega arith; high = omega arith; some = omega arith; small = omega arith; half = refl; range = refl })
    cases false false false e f g h = absurd (subst T (sym h) tt)
