use Rattle.std.proofs.Common.{◌≡◌, ◌+◌, ◌-◌, ◌∙◌, arith, drop, get_or, slice_range}
use Rattle.std.proofs.lemmas.List.{get_or-take, get_or-drop}
use Rattle.tap_places.specs.TurnLaws.{in_turn_next}
use Rattle.byte_pass.proofs.border.filter_border.Goals as goal
use Rattle.byte_pass.proofs.border.filter_border.Invariants.{family}

pub loop-j-preserved : goal.loop-j-preserved
loop-j-preserved c =
    let a = c.args in
    let p = c.position_unchecked-p.ensures in
    let keys = a.keys.now.of in
    let j = c.loop-j.j in
    let key : get_or (slice_range keys a.first 16) j 0 ≡ get_or keys (a.first + j) 0 = get_or-take (16 - a.first) (drop a.first keys) j 0 (omega (arith, c.loop-j-test.true)) ∙ get_or-drop a.first keys j 0 in
    in_turn_next (family a.w.now.g a.start.pass a.start.x a.start.y a.w.now.sharpness.level a.keys.now.of a.first) c.loop-j.j _ _ _
    (rw (p.0, p.1, p.2, key) at c.filter_keyed.ensures) c.loop-j.invariant
