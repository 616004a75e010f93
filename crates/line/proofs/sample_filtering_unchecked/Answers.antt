use Rattle.std.proofs.Common.{◌≡◌, ◌∙◌, subst, List, ℕ}
use Rattle.lane.specs.LaneSamples.{six_of, fourteen_of, put_taps}
use Rattle.line.specs.SampleFilteringLaws.{filters_narrow, filters-six, filters-fourteen}
use Rattle.wide_filter.specs.WideFilter.{wide_filter}
use Rattle.line.proofs.sample_filtering_unchecked.Goals as goal

pub returns-then-size-flat_mask : goal.returns-then-size-flat_mask
returns-then-size-flat_mask c =
    let a = c.args in
    (rw (c.hev_mask-hev.ensures, c.from-a.ensures, c.scaled-then-size-flat_mask.ensures.0) at c.narrow_filter.ensures)
    ∙ filters_narrow a.f.depth.bits a.size a.f.limit a.f.blimit a.f.thresh a.t.now
    (rw (c.filter_mask_unchecked.ensures, c.from-a.ensures, c.scaled.ensures.0, c.scaled-2.ensures.0) at c.if-not-filter_mask_unchecked.false)
    (rw (c.flat_mask.ensures, c.from-a.ensures, c.scaled-one.ensures.0) at c.if-size-flat_mask.true)

pub returns-then-size-flat_mask2 : goal.returns-then-size-flat_mask2
returns-then-size-flat_mask2 c =
    let a = c.args in
    c.store_six.ensures
    ∙ subst (λ (t : List ℕ). put_taps t 5 (six_of c.wide_six.result) ≡ wide_filter 3 t) c.from-a.ensures c.wide_six.ensures
    ∙ filters-six a.f.depth.bits a.size a.f.limit a.f.blimit a.f.thresh a.t.now
    (rw (c.filter_mask_unchecked.ensures, c.from-a.ensures, c.scaled.ensures.0, c.scaled-2.ensures.0) at c.if-not-filter_mask_unchecked.false)
    (rw (c.flat_mask.ensures, c.from-a.ensures, c.scaled-one.ensures.0) at c.if-size-flat_mask.false)
    (rw (c.flat_mask2.ensures, c.from-a.ensures, c.scaled-one.ensures.0) at c.if-size-flat_mask2.true)

pub returns : goal.returns
returns c =
    let a = c.args in
    c.store_fourteen.ensures
    ∙ subst (λ (t : List ℕ). put_taps t 1 (fourteen_of c.wide_fourteen.result) ≡ wide_filter 4 t) c.from-a.ensures c.wide_fourteen.ensures
    ∙ filters-fourteen a.f.depth.bits a.size a.f.limit a.f.blimit a.f.thresh a.t.now
    (rw (c.filter_mask_unchecked.ensures, c.from-a.ensures, c.scaled.ensures.0, c.scaled-2.ensures.0) at c.if-not-filter_mask_unchecked.false)
    (rw (c.flat_mask.ensures, c.from-a.ensures, c.scaled-one.ensures.0) at c.if-size-flat_mask.false)
    (rw (c.flat_mask2.ensures, c.from-a.ensures, c.scaled-one.ensures.0) at c.if-size-flat_mask2.false)
