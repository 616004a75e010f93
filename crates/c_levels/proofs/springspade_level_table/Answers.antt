use Rattle.std.proofs.Common.{◌≡◌, false, ◌||◌, ltb, length, le-ltb}
use Rattle.c_levels.specs.LevelEntry.{level_entry}
use Rattle.c_levels.proofs.springspade_level_table.Goals as goal

pub returns-in-Ok : goal.returns-in-Ok
unfolding level_entry
returns-in-Ok c =
    let a = c.args in
    let long : ltb (length a.deltas.now) 6 || ltb (length a.deltas_present.now) 6 || ltb (length a.feature_enabled.now) 32 || ltb (length a.feature_data.now) 32 || ltb (length a.levels.now) 64 ≡ false = c.if-deltas-deltas_present.false in
    let e = rw (c.loop_filter_params-lf.ensures, c.segmentation_params-seg.ensures) at c.in-Ok.ensures in
    rw (le-ltb _ _ c.if-level-gt63.false, long, ← e) (c.refusal_of.ensures, c.store_levels.ensures)
