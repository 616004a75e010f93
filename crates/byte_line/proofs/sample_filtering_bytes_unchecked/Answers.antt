use Rattle.std.proofs.Common.{◌≡◌, refl, sym, ◌∙◌, true, rules, take, drop, take-append-drop, length-take-le, get_or-take}
use Rattle.base.specs.Depth.{supported}
use Rattle.line.specs.SampleFilteringLaws.{filters-length, filters_within, filters-front}
use Rattle.wide_filter.specs.Taps.{Within}
use Rattle.byte_line.proofs.sample_filtering_bytes_unchecked.Goals as goal

depth_8 : supported 8 ≡ true
unfolding supported
depth_8 = refl

-- the line after has 16 samples, and each of them fits a byte
pub store_narrowed-requires : goal.store_narrowed-requires
store_narrowed-requires c =
    let t = c.args.t.now in
    let sixteen = length-take-le 16 t c.requires in
    let bytes : Within 256 (take 16 t) = record { below = λ k h. rw (get_or-take 16 t k 0 h) (search rules) } in (
      c.requires,
      rw (c.sample_filtering_unchecked.ensures, c.widened-wide.ensures) (filters-length 8 _ _ _ _ (take 16 t) ∙ sixteen),
      rw (c.sample_filtering_unchecked.ensures, c.widened-wide.ensures) (filters_within 8 _ _ _ _ (take 16 t) depth_8 bytes),
    )

-- what stands behind the 16 bytes is left by the line too
pub returns : goal.returns
returns c =
    let a = c.args in
    let t = a.t.now in
    let front = filters-front 8 a.size a.limit a.blimit a.thresh (take 16 t) (drop 16 t) (length-take-le 16 t c.requires) in
    (rw (c.sample_filtering_unchecked.ensures, c.widened-wide.ensures) at c.store_narrowed.ensures)
    ∙ sym (rw take-append-drop at front)
