use Rattle.std.proofs.Common.{◌≡◌, Bool, cond, ℕ, ◌<◌, arith, ℤ, pos, ◌+ℤ◌, ◌-ℤ◌, ◌*ℤ◌, w32, SFits}
use Rattle.std.specs.Int.Signed.{mag}
use Rattle.base.specs.Machine.{back, read, Far, far_read, plus_fits, plus_read, minus_read}
use Rattle.base.specs.NotationLaws.{mag_minus, mag_triple}
use Rattle.line.specs.NarrowFilter.{c}
use Rattle.line.proofs.narrow.filter_value.Goals as goal

far : {z : ℤ} → mag z < 131072 → Far z
far p = record { far = omega arith }

-- three times the step across the edge
triple_far : (a b : ℤ) → mag a < 131072 → mag b < 131072 → Far (pos 3 *ℤ (a -ℤ b))
triple_far a b p q = record { far = omega (arith, mag_triple (a -ℤ b) (mag_minus a b p q)) }

triple_fits : (a b : ℤ) → mag a < 131072 → mag b < 131072 → SFits w32 (pos 3 *ℤ read (read a -ℤ read b))
triple_fits a b p q = let t = triple_far a b p q in rw (minus_read a b (far p) (far q)) (record { sfits = omega arith })

sum_fits : (base a b : ℤ) → mag base < 2048 → mag a < 131072 → mag b < 131072 → SFits w32 (read base +ℤ read (pos 3 *ℤ read (read a -ℤ read b)))
sum_fits base a b s p q =
    rw (minus_read a b (far p) (far q)) (plus_fits base (pos 3 *ℤ (a -ℤ b)) (far (omega arith)) (triple_far a b p q))

-- the numbers instead of their bits
value : (B : ℕ) (hev : Bool) (ps1 ps0 qs0 qs1 base r : ℤ) → mag ps1 < 131072 → mag ps0 < 131072 → mag qs0 < 131072 → mag qs1 < 131072 → mag base < 2048 → base ≡ cond hev (c B (read ps1 -ℤ read qs1)) (pos 0) → r ≡ c B (read (read base +ℤ read (pos 3 *ℤ read (read qs0 -ℤ read ps0)))) → r ≡ c B (cond hev (c B (ps1 -ℤ qs1)) (pos 0) +ℤ pos 3 *ℤ (qs0 -ℤ ps0))
value B hev ps1 ps0 qs0 qs1 base r p1 p0 q0 q1 s e f =
    rw (
      minus_read qs0 ps0 (far q0) (far p0),
      plus_read base (pos 3 *ℤ (qs0 -ℤ ps0)) (far (omega arith)) (triple_far qs0 ps0 q0 p0),
      e,
      far_read (far p1),
      far_read (far q1),
    )
    at f

pub returns : goal.returns
returns x =
    let a = x.args in
    let (p1, p0, q0, q1) = x.requires in
    let base = x.filter_base-base in
    rw (back w32 x.clip.type_inv) (
      value a.depth.bits a.hev a.ps1 a.ps0 a.qs0 a.qs1 base.result x.clip.result p1 p0 q0 q1 base.ensures.1 base.ensures.0 x.clip.ensures.0,
      x.clip.ensures.1,
    )
