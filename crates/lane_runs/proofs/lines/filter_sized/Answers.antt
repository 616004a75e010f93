use Rattle.lane_runs.specs.SpreadLaws.{loaded_table}
use Rattle.lane_runs.specs.LaneRunLaws.{lanes_run}
use Rattle.lane_runs.proofs.lines.filter_sized.Goals as goal

pub filter_lanes_unchecked-requires : goal.filter_lanes_unchecked-requires
filter_lanes_unchecked-requires g c =
    let run = c.requires in
    (rw c.count.ensures run.run.few, loaded_table run c.read_taps.result.few c.gather-t.ensures)

pub returns-then-filter_lanes_unchecked : goal.returns-then-filter_lanes_unchecked
returns-then-filter_lanes_unchecked g c =
    let a = c.args in
    let s = a.f in
    lanes_run a.f.depth.bits g.row.SIZE s.limit s.blimit s.thresh _ _ _ _ a.samples.now _ _ c.requires.run (rw (c.read_taps.ensures.0, c.read_taps.ensures.1) at c.gather-t.ensures)
    (rw c.count.ensures at c.filter_lanes_unchecked.ensures.0) _ (rw (c.changed_taps.ensures.0, c.changed_taps.ensures.1) at c.scatter.ensures)
