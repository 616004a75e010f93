use Rattle.std.proofs.Common.{◌≡◌, ◌+◌, ◌-◌, ◌*◌, ◌/◌, ℕ, arith, ap, ◌∙◌, length-set}
use Rattle.std.proofs.lemmas.List.{get_or-take}
use Rattle.wide_filter.specs.WideSums.{side}
use Rattle.wide_filter.proofs.SideSums.{total, total_more, near_fits, sum_of, Whole, whole, whole_side, side_more}
use Rattle.wide_filter.proofs.side_unchecked.Goals as goal

-- what is known of the sums of a sample
sums : (g : _) (c : goal.After-product-outer g) → Whole g.S.Sum.top g.row.M c.loop-k.k c.args.x c.args.y
sums g c =
    whole g.S.Sum.top g.row.M c.loop-k.k c.args.x c.args.y c.requires.few.1 (omega arith) c.requires.small.0 c.requires.small.1

near : (g : _) (c : goal.After-product-outer g) → g.S.Sum.value c.loop-v.near ≡ g.row.M + total c.args.x (g.row.M - 1)
near g c =
    let all : c.loop-v.v-index ≡ g.row.M - 1 = omega arith in
    c.loop-v.invariant ∙ ap (λ (k : ℕ). g.row.M + total c.args.x k) all

pub plus-near-requires : goal.plus-near-requires
plus-near-requires g c =
    omega (arith, c.loop-v.invariant, c.of.ensures, get_or-take (g.row.M - 1) c.args.x c.loop-v.v-index 0 (omega arith), near_fits g.S.Sum.top g.row.M c.loop-v.v-index c.args.x c.requires.few.1 (omega arith) c.requires.small.0)

pub plus-far-requires : goal.plus-far-requires
plus-far-requires g c =
    omega (arith, c.loop-k.invariant.0, c.of-in-loop-k.ensures, near_fits g.S.Sum.top g.row.M c.loop-k.k c.args.y c.requires.few.1 (omega arith) c.requires.small.1)

pub plus-requires : goal.plus-requires
plus-requires g c =
    let s = sums g c in omega (arith, near g c, c.product-outer.ensures, s.fits)

pub plus-requires-in-loop-k : goal.plus-requires-in-loop-k
plus-requires-in-loop-k g c =
    omega (arith, near g c.before.before.before, c.product-outer.ensures, c.plus.ensures, c.of-in-loop-k-2.ensures, (sums g c.before.before.before).fits)

-- the sum that the code divides
whole_is : (g : _) (c : goal.After-plus-sum g) → g.S.Sum.value c.plus-sum.result ≡ sum_of g.row.M c.loop-k.k c.args.x c.args.y
whole_is g c =
    omega (arith, near g c.before.before.before.before.before, c.product-outer.ensures, c.plus.ensures, c.of-in-loop-k-2.ensures, c.plus-in-loop-k.ensures, c.plus-far.ensures, c.of-in-loop-k.ensures, c.loop-k.invariant.0, c.plus-sum.ensures)

pub plus-sum-requires : goal.plus-sum-requires
plus-sum-requires g c =
    omega (arith, near g c.before.before.before.before, c.product-outer.ensures, c.plus.ensures, c.of-in-loop-k-2.ensures, c.plus-in-loop-k.ensures, c.plus-far.ensures, c.of-in-loop-k.ensures, c.loop-k.invariant.0, (sums g c.before.before.before.before).fits)

pub over-requires : goal.over-requires
over-requires g c = omega (arith, whole_is g c, (sums g c.before.before.before.before.before).over)

pub loop-k-preserved : goal.loop-k-preserved
loop-k-preserved g c =
    let (far, long, done) = c.loop-k.invariant in
    let m = g.row.M in
    let k = c.loop-k.k in
    let value : c.over.result ≡ side (m - 1) c.args.x c.args.y (m - 1 - 1 - k) = c.over.ensures ∙ ap (λ (z : ℕ). z / (2 * m)) (whole_is g c.before) ∙ whole_side m k c.args.x c.args.y (omega arith) in
    (omega (arith, total_more c.args.y k, far, c.plus-far.ensures, c.of-in-loop-k.ensures), length-set c.loop-k.r (m - 1 - 1 - k) c.over.result ∙ long, side_more m k c.over.result c.args.x c.args.y c.loop-k.r (omega arith) long value done)
