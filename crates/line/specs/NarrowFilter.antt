-- The narrow filter process: 8.8.5.4. B is the bit depth.
-- Assumes nothing.
use Rattle.std.specs.Prelude.{Bool, cond, List, ℕ, ◌-◌, ◌^◌, ℤ, pos, neg_ℤ, nat_abs, ◌+ℤ◌, ◌-ℤ◌, ◌*ℤ◌, set}
use Rattle.base.specs.Depth.{scaled}
use Rattle.base.specs.Notation.{clip3, asr_z, round2_z}
use Rattle.wide_filter.specs.Taps.{p, q}

-- c( v ): v clipped to the numbers of B bits with a sign
unfoldable pub c : (B : ℕ) (v : ℤ) → ℤ
c B v = clip3 (neg_ℤ (pos (2 ^ (B - 1)))) (pos (2 ^ (B - 1) - 1)) v

-- 0x80 << (B - 8)
abbrev pub offset : (B : ℕ) → ℤ
offset B = pos (scaled B 128)

-- a sample less the offset, and a sum of such back among the samples
abbrev pub signed : (B x : ℕ) → ℤ
signed B x = pos x -ℤ offset B

unfoldable pub sample : (B : ℕ) (v : ℤ) → ℕ
sample B v = nat_abs (c B v +ℤ offset B)

-- steps 1 to 8. The standard's filter is here base after step 2, filter after step 3 and rounded in step 8; inner is the
-- line after steps 6 and 7.
unfoldable pub narrow_filter : (B : ℕ) (hev_mask : Bool) (t : List ℕ) → List ℕ
narrow_filter B hev_mask t =
    let ps1 = signed B (p t 1) in
    let ps0 = signed B (p t 0) in
    let qs0 = signed B (q t 0) in
    let qs1 = signed B (q t 1) in
    let base = cond hev_mask (c B (ps1 -ℤ qs1)) (pos 0) in
    let filter = c B (base +ℤ pos 3 *ℤ (qs0 -ℤ ps0)) in
    let filter1 = asr_z (c B (filter +ℤ pos 4)) 3 in
    let filter2 = asr_z (c B (filter +ℤ pos 3)) 3 in
    let inner = set (set t 8 (sample B (qs0 -ℤ filter1))) 7 (sample B (ps0 +ℤ filter2)) in
    let rounded = round2_z filter1 1 in
    cond hev_mask inner (set (set inner 9 (sample B (qs1 -ℤ rounded))) 6 (sample B (ps1 +ℤ rounded)))
