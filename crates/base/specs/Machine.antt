-- How a signed number stands in the machine: as bits, from which it is read back. For the proofs of functions.
-- Assumes nothing.
use Rattle.std.specs.Prelude.{◌≡◌, ℕ, ◌^◌, ◌<◌, ℤ, ◌+ℤ◌, ◌-ℤ◌}
use Rattle.std.proofs.Common.{arith, to_z-of_z, SFits, to_z, of_z}
use Rattle.std.specs.Int.Signed.{mag, shr_z, mag_shr}
use Rattle.std.specs.Int.{Width, w32}
use mir.Val.{hbits}
use Rattle.base.specs.NotationLaws.{mag_add, mag_minus}

pub back : (w : Width) {z : ℤ} → mag z < 2 ^ hbits w → to_z w (of_z w z) ≡ z
back w h = to_z-of_z (record { sfits = h })

-- the number that 32 bits read
abbrev pub read : ℤ → ℤ
read z = to_z w32 (of_z w32 z)

-- numbers far from the limits of 32 bits: what is computed from them fits, and is read as what it is
pub record Far (z : ℤ) : Type 0 where
  pub far : mag z < 2 ^ 28

pub far_read : {z : ℤ} → Far z → read z ≡ z
far_read {z} f = back w32 (omega arith)

pub plus_fits : (a b : ℤ) → Far a → Far b → SFits w32 (read a +ℤ read b)
plus_fits a b f g = rw (far_read f, far_read g) (record { sfits = omega (arith, mag_add a b f.far g.far) })

pub plus_read : (a b : ℤ) → Far a → Far b → read (read a +ℤ read b) ≡ a +ℤ b
plus_read a b f g = rw (far_read f, far_read g) (back w32 (omega (arith, mag_add a b f.far g.far)))

pub minus_fits : (a b : ℤ) → Far a → Far b → SFits w32 (read a -ℤ read b)
minus_fits a b f g = rw (far_read f, far_read g) (record { sfits = omega (arith, mag_minus a b f.far g.far) })

pub minus_read : (a b : ℤ) → Far a → Far b → read (read a -ℤ read b) ≡ a -ℤ b
minus_read a b f g = rw (far_read f, far_read g) (back w32 (omega (arith, mag_minus a b f.far g.far)))

pub shr-read : (a : ℤ) (m : ℕ) → Far a → read (shr_z (read a) m) ≡ shr_z a m
shr-read a m f = rw (far_read f) (back w32 (omega (arith, mag_shr a m)))
