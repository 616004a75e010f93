-- Laws of coordinates: a subsampling shifts by one bit, and in a subsampled plane they are no larger.
-- Assumes nothing.
use Rattle.std.specs.Prelude.{◌≡◌, refl, Bool, true, false, ℕ, ◌*◌, ◌/◌, ◌^◌, ◌≤◌}
use Rattle.std.specs.Int.{from_bool}
use Rattle.std.proofs.Common.{arith}
use Rattle.geometry.specs.Coordinates.{shl, shr}

pub shr_small : (n : ℕ) (sub : Bool) → shr n sub ≤ n
shr_small n true = omega arith
shr_small n false = omega arith

pub shift_right : (n : ℕ) (sub : Bool) → n / 2 ^ from_bool sub ≡ shr n sub
shift_right n true = refl
shift_right n false = omega arith

pub shift_left : (n : ℕ) (sub : Bool) → n * 2 ^ from_bool sub ≡ shl n sub
shift_left n true = omega arith
shift_left n false = omega arith
