use Rattle.std.proofs.Common.{◌≡◌, refl, sym, ◌∙◌, ◌-◌, arith}
use Rattle.base.specs.First.{first_here, first_next, first_end, first_is}
use Rattle.base.proofs.search.first_place.Goals as goal

pub returns-then-test : goal.returns-then-test
returns-then-test g c =
    let holds = sym (c.requires.1.1 c.loop-k.k _ (omega arith) c.test.ensures) ∙ c.if-test.true in
    let here = first_here g.holds c.loop-k.k c.args.n (omega arith) holds in
    rw (sym c.any.ensures ∙ c.if-not-any.false, ← here, c.loop-k.invariant) refl

pub loop-k-preserved : goal.loop-k-preserved
loop-k-preserved g c =
    let holds = sym (c.requires.1.1 c.loop-k.k _ (omega arith) c.test.ensures) ∙ c.if-test.false in
    sym (first_next g.holds c.loop-k.k c.args.n (omega arith) holds) ∙ c.loop-k.invariant

-- a test that holds somewhere is found before the end
pub returns : goal.returns
returns g c =
    let some = first_is g.holds c.args.n (sym c.any.ensures ∙ c.if-not-any.false) in
    let to = some.to in
    let all : c.loop-k.k ≡ c.args.n = omega arith in
    let none : c.args.n - c.args.n ≡ 0 = omega arith in
    let end = sym (rw (all, none) at c.loop-k.invariant) ∙ first_end g.holds c.args.n in
    absurd (omega arith)
