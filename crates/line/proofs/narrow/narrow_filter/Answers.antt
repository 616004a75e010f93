use Rattle.std.proofs.Common.{◌≡◌, Bool, cond, List, ℕ, ◌<◌, arith, ℤ, pos, ◌+ℤ◌, ◌-ℤ◌, ◌*ℤ◌, set}
use Rattle.std.specs.Int.Signed.{mag}
use Rattle.base.specs.Machine.{read, Far, far_read, plus_read, minus_read}
use Rattle.base.specs.Notation.{asr_z, round2_z}
use Rattle.line.specs.NarrowFilter.{c, signed, sample, narrow_filter}
use Rattle.wide_filter.specs.Taps.{p, q}
use Rattle.line.proofs.narrow.narrow_filter.Goals as goal

far : {z : ℤ} → mag z < 131072 → Far z
far h = record { far = omega arith }

-- the filter from the steps' own promises, which speak of the numbers that the bits read
narrow_is : (B : ℕ) (hev : Bool) (t : List ℕ) (ps1 ps0 qs0 qs1 f f1 f2 : ℤ) (q0 p0 : ℕ) → (ps1 ≡ signed B (p t 1)) × (mag ps1 < 131072) → (ps0 ≡ signed B (p t 0)) × (mag ps0 < 131072) → (qs0 ≡ signed B (q t 0)) × (mag qs0 < 131072) → (qs1 ≡ signed B (q t 1)) × (mag qs1 < 131072) → (f ≡ c B (cond hev (c B (read ps1 -ℤ read qs1)) (pos 0) +ℤ pos 3 *ℤ (read qs0 -ℤ read ps0))) × (mag f < 2048) → (f1 ≡ asr_z (c B (read (read f +ℤ pos 4))) 3) × (mag f1 < 2048) → (f2 ≡ asr_z (c B (read (read f +ℤ pos 3))) 3) × (mag f2 < 2048) → q0 ≡ sample B (read (read qs0 -ℤ read f1)) → p0 ≡ sample B (read (read ps0 +ℤ read f2)) → cond hev (set (set t 8 q0) 7 p0) (set (set (set (set t 8 q0) 7 p0) 9 (sample B (qs1 -ℤ round2_z f1 1))) 6 (sample B (ps1 +ℤ round2_z f1 1))) ≡ narrow_filter B hev t
unfolding narrow_filter
narrow_is B hev t ps1 ps0 qs0 qs1 f f1 f2 q0 p0 (e1, b1) (e0, b0) (d0, a0) (d1, a1) (ef, bf) (ef1, bf1) (ef2, bf2) eq ep =
    rw (
      eq,
      ep,
      minus_read qs0 f1 (far a0) (far (omega arith)),
      plus_read ps0 f2 (far b0) (far (omega arith)),
      ef1,
      ef2,
      plus_read f (pos 4) (far (omega arith)) (far (omega arith)),
      plus_read f (pos 3) (far (omega arith)) (far (omega arith)),
      ef,
      far_read (far {z = ps1} b1),
      far_read (far {z = ps0} b0),
      far_read (far {z = qs0} a0),
      far_read (far {z = qs1} a1),
      e1,
      e0,
      d0,
      d1,
    )

-- the filter after p0 and q0 are stored
filtered : (x : goal.Then-hev) → let signed4 = x in let signed = signed4 in let a = signed.args in let t = set (set a.t.now 8 x.sample.result) 7 x.sample-2.result in let f1 = x.eighth-filter1.result in cond a.hev t (set (set t 9 (sample a.depth.bits (signed4.signed-qs1.result -ℤ round2_z f1 1))) 6 (sample a.depth.bits (signed.signed-ps1.result +ℤ round2_z f1 1))) ≡ narrow_filter a.depth.bits a.hev a.t.now
filtered x =
    let at-sample = x in
    let at-eighth2 = at-sample in
    let at-eighth = at-eighth2 in
    let at-filter = at-eighth in
    let at-signed4 = at-filter in
    let at-signed3 = at-signed4 in
    let at-signed2 = at-signed3 in
    let at-signed = at-signed2 in
    let a = at-signed.args in
    narrow_is a.depth.bits a.hev a.t.now at-signed.signed-ps1.result at-signed2.signed-ps0.result at-signed3.signed-qs0.result at-signed4.signed-qs1.result at-filter.filter_value-filter.result at-eighth.eighth-filter1.result at-eighth2.eighth-filter2.result at-sample.sample.result x.sample-2.result at-signed.signed-ps1.ensures at-signed2.signed-ps0.ensures at-signed3.signed-qs0.ensures at-signed4.signed-qs1.ensures at-filter.filter_value-filter.ensures at-eighth.eighth-filter1.ensures at-eighth2.eighth-filter2.ensures at-sample.sample.ensures x.sample-2.ensures

-- the filter after p0 and q0 are stored
filtered2 : (x : goal.After-sample-4) → let signed4 = x in let signed = signed4 in let a = signed.args in let t = set (set a.t.now 8 x.sample.result) 7 x.sample-2.result in let f1 = x.eighth-filter1.result in cond a.hev t (set (set t 9 (sample a.depth.bits (signed4.signed-qs1.result -ℤ round2_z f1 1))) 6 (sample a.depth.bits (signed.signed-ps1.result +ℤ round2_z f1 1))) ≡ narrow_filter a.depth.bits a.hev a.t.now
filtered2 x =
    let at-sample = x in
    let at-eighth2 = at-sample in
    let at-eighth = at-eighth2 in
    let at-filter = at-eighth in
    let at-signed4 = at-filter in
    let at-signed3 = at-signed4 in
    let at-signed2 = at-signed3 in
    let at-signed = at-signed2 in
    let a = at-signed.args in
    narrow_is a.depth.bits a.hev a.t.now at-signed.signed-ps1.result at-signed2.signed-ps0.result at-signed3.signed-qs0.result at-signed4.signed-qs1.result at-filter.filter_value-filter.result at-eighth.eighth-filter1.result at-eighth2.eighth-filter2.result at-sample.sample.result x.sample-2.result at-signed.signed-ps1.ensures at-signed2.signed-ps0.ensures at-signed3.signed-qs0.ensures at-signed4.signed-qs1.ensures at-filter.filter_value-filter.ensures at-eighth.eighth-filter1.ensures at-eighth2.eighth-filter2.ensures at-sample.sample.ensures x.sample-2.ensures

pub returns-then-hev : goal.returns-then-hev
returns-then-hev x = rw (← filtered x, x.if-hev.true)

pub returns : goal.returns
returns x =
    let at-rounded = x in
    let at-sample2 = at-rounded in
    let at-eighth = at-sample2 in
    let at-signed4 = at-eighth in
    let at-signed = at-signed4 in
    let rounded = at-rounded.rounded_half-rounded.result in
    let small : Far rounded = far (omega arith) in
    rw (
      ← filtered2 at-sample2,
      at-rounded.if-hev.false,
      x.sample-4.ensures,
      x.sample-3.ensures,
      minus_read at-signed4.signed-qs1.result rounded (far at-signed4.signed-qs1.ensures.1) small,
      plus_read at-signed.signed-ps1.result rounded (far at-signed.signed-ps1.ensures.1) small,
      at-rounded.rounded_half-rounded.ensures.0,
      far_read (far {z = at-eighth.eighth-filter1.result} (omega arith)),
    )
