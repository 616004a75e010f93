use Rattle.std.proofs.Common.{◌≡◌, ◌∙◌, ap, true, false, rules}
use Rattle.byte_lanes.specs.ByteLanes.{beyond}
use Rattle.byte_lanes.specs.declared.Changed.TheVariants.{Inner, Outer}
use Rattle.byte_chunks.specs.ChunkLaws.{any_large_fold, chunk_run, chunk_kept}
use Rattle.byte_chunks.proofs.filter_chunk_unchecked.Goals as goal

pub returns-in-Nothing : goal.returns-in-Nothing
returns-in-Nothing c =
    let a = c.args in
    chunk_kept a.run.at a.run.step a.run.along a.run.n a.sharpness.level a.keys.now.of _ (c.any_large-all.ensures ∙ any_large_fold _ (search rules)) a.samples.now _ _ _ c.requires c.load_lanes_unchecked.ensures.0 c.filter_byte_lanes-changed.ensures (search rules)

pub returns-in-Inner : goal.returns-in-Inner
returns-in-Inner c =
    let a = c.args in
    let is : c.filter_byte_lanes-changed.result ≡ Inner = search rules in
    chunk_run a.run.at a.run.step a.run.along a.run.n a.sharpness.level a.keys.now.of _ (c.any_large-all.ensures ∙ any_large_fold _ (search rules)) a.samples.now _ _ _ c.requires c.load_lanes_unchecked.ensures.0 c.filter_byte_lanes-changed.ensures false (ap beyond is) _ c.store_lanes_unchecked.ensures

pub returns-in-Outer : goal.returns-in-Outer
returns-in-Outer c =
    let a = c.args in
    let is : c.filter_byte_lanes-changed.result ≡ Outer = search rules in
    chunk_run a.run.at a.run.step a.run.along a.run.n a.sharpness.level a.keys.now.of _ (c.any_large-all.ensures ∙ any_large_fold _ (search rules)) a.samples.now _ _ _ c.requires c.load_lanes_unchecked.ensures.0 c.filter_byte_lanes-changed.ensures true (ap beyond is) _ c.store_lanes_unchecked-in-Outer.ensures
