-- The widths of lent samples: what each admits.
-- Assumes nothing.
use Rattle.std.specs.Prelude.{◌≡◌, Bool, true, List, ℕ, ◌^◌, ◌≤◌, ◌<◌, eqb, get_or}
use Rattle.std.proofs.Common.{arith, eqb→eq}
use Rattle.base.specs.Depth.{supported, depth_scaled}

pub data Width : Type 0 where
  Byte : Width
  U16 : Width

-- the bits of a lent sample
abbrev pub bits : Width → ℕ
bits Byte = 8
bits U16 = 16

-- the depths that a width admits: bytes hold samples of depth 8 alone
abbrev pub admits : Width → (depth : ℕ) → Bool
admits Byte depth = eqb depth 8
admits U16 depth = supported depth

-- the range of a width: what its type says of every lent sample
pub record Ranged (w : Width) (l : List ℕ) : Type 0 where
  pub below : (k : ℕ) → get_or l k 0 < 2 ^ bits w

module _ (depth : ℕ) where
  -- a depth that a width admits is one of VP9's, and its samples fit the width
  pub admits-supported : (w : Width) → admits w depth ≡ true → supported depth ≡ true
  unfolding supported
  admits-supported Byte e = rw e
  admits-supported U16 e = e

  pub admits_fits : (w : Width) → admits w depth ≡ true → depth ≤ bits w
  admits_fits Byte e = omega (arith, eqb→eq depth 8 (rw e tt))
  admits_fits U16 e = omega (arith, (depth_scaled depth e).high)

  -- and a byte is in range at the depth that bytes have
  pub byte_range : {l : List ℕ} → admits Byte depth ≡ true → Ranged Byte l → (k : ℕ) → get_or l k 0 < 2 ^ depth
  byte_range e r k = rw (eqb→eq depth 8 (rw e tt)) (r.below k)
