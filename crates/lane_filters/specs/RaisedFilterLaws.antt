-- The raised values are those of the narrow filter.
-- Assumes nothing.
use Rattle.std.specs.Prelude.{◌≡◌, Bool, cond, List, pos, ◌+ℤ◌, ◌-ℤ◌, ◌*ℤ◌, ℕ, ◌+◌, ◌-◌, ◌*◌, ◌^◌, min}
use Rattle.std.proofs.Common.{arith, refl}
use Rattle.std.proofs.Math.Bool.{true, false}
use Rattle.std.proofs.Math.IntN.{sub_ℕ}
use Rattle.std.proofs.lemmas.Int.{ints}
use Rattle.base.specs.Depth.{supported, depth_scaled}
use Rattle.base.specs.Notation.{clip3, asr_z, round2_z}
use Rattle.line.specs.NarrowFilter.{c, signed, sample, narrow_filter}
use Rattle.wide_filter.specs.Taps.{p, q}
use Rattle.lane_filters.specs.RaisedFilter.{raised_base, raised_filter, raised_eighth, raised_half, increased, decreased, raised_narrow}

-- `sub_ℕ x y` is the integer x - y
module _ (B s : ℕ) (known : supported B ≡ true) (is : s ≡ 2 ^ (B - 8)) where
  -- what is clipped, raised by half the range, is cut at 0 and at the greatest sample
  c_is : (x y : ℕ) → c B (sub_ℕ x y) ≡ sub_ℕ (min (x + 128 * s - y) (256 * s - 1)) (128 * s)
  unfolding c clip3
  c_is x y = let d = depth_scaled B known in grind (arith, ints)

  signed_is : (x : ℕ) → signed B x ≡ sub_ℕ x (128 * s)
  signed_is x = grind (arith, ints)

  signed_less : (x y : ℕ) → signed B x -ℤ signed B y ≡ sub_ℕ x y
  signed_less x y = grind (arith, ints)

  base_is : (hev : Bool) (p1 q1 : ℕ) → cond hev (c B (signed B p1 -ℤ signed B q1)) (pos 0) ≡ sub_ℕ (raised_base s hev p1 q1) (128 * s)
  unfolding raised_base
  base_is true p1 q1 = rw (signed_less p1 q1, c_is p1 q1)
  base_is false p1 q1 = grind (arith, ints)

  filter_is : (b p0 q0 : ℕ) → c B (sub_ℕ b (128 * s) +ℤ pos 3 *ℤ (signed B q0 -ℤ signed B p0)) ≡ sub_ℕ (raised_filter s b p0 q0) (128 * s)
  unfolding raised_filter
  filter_is b p0 q0 =
      let e : sub_ℕ b (128 * s) +ℤ pos 3 *ℤ sub_ℕ q0 p0 ≡ sub_ℕ (b + 3 * q0) (128 * s + 3 * p0) = grind (arith, ints) in
      rw (signed_less q0 p0, e, c_is) (grind (arith, ints))

  eighth_is : (f k : ℕ) → asr_z (c B (sub_ℕ f (128 * s) +ℤ pos k)) 3 ≡ sub_ℕ (raised_eighth s f k) (16 * s)
  unfolding raised_eighth
  eighth_is f k =
      let e : sub_ℕ f (128 * s) +ℤ pos k ≡ sub_ℕ (f + k) (128 * s) = grind (arith, ints) in
      rw (e, c_is) (grind (arith, ints))

  half_is : (f : ℕ) → round2_z (sub_ℕ f (16 * s)) 1 ≡ sub_ℕ (raised_half f) (8 * s)
  half_is f = grind (arith, ints)

  sample_is : (x y : ℕ) → sample B (sub_ℕ x y) ≡ min (x + 128 * s - y) (256 * s - 1)
  unfolding sample
  sample_is x y = rw (c_is, ← is) (grind (arith, ints))

  increased_is : (x f k : ℕ) → sample B (signed B x +ℤ sub_ℕ f k) ≡ increased s x f k
  unfolding increased
  increased_is x f k =
      let e : sub_ℕ x (128 * s) +ℤ sub_ℕ f k ≡ sub_ℕ (x + f) (128 * s + k) = grind (arith, ints) in
      rw (signed_is x, e, sample_is) (omega arith)

  decreased_is : (x f k : ℕ) → sample B (signed B x -ℤ sub_ℕ f k) ≡ decreased s x f k
  unfolding decreased
  decreased_is x f k =
      let e : sub_ℕ x (128 * s) -ℤ sub_ℕ f k ≡ sub_ℕ (x + k) (128 * s + f) = grind (arith, ints) in
      rw (signed_is x, e, sample_is) (omega arith)

  pub narrow_raised : (hev : Bool) (t : List ℕ) → narrow_filter B hev t ≡ raised_narrow s hev t
  unfolding narrow_filter
  narrow_raised hev t =
      rw (
        base_is hev (p t 1) (q t 1),
        filter_is (raised_base s hev (p t 1) (q t 1)) (p t 0) (q t 0),
        eighth_is (raised_filter s (raised_base s hev (p t 1) (q t 1)) (p t 0) (q t 0)) 4,
        eighth_is (raised_filter s (raised_base s hev (p t 1) (q t 1)) (p t 0) (q t 0)) 3,
        half_is (raised_eighth s (raised_filter s (raised_base s hev (p t 1) (q t 1)) (p t 0) (q t 0)) 4),
        increased_is (p t 0),
        decreased_is (q t 0),
        increased_is (p t 1),
        decreased_is (q t 1),
      )

-- of bytes
pub narrow_bytes : (hev : Bool) (t : List ℕ) → narrow_filter 8 hev t ≡ raised_narrow 1 hev t
unfolding supported
narrow_bytes hev t = narrow_raised 8 1 refl refl hev t
