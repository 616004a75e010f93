use Rattle.std.proofs.Common.{◌≡◌, ◌∙◌, ap, to_z-of_z}
use Rattle.base.specs.Fault.{place_of}
use Rattle.base.specs.Outcome.{Outcome, returned}
use Rattle.edges.specs.EdgeLaws.{edge_place}
use Rattle.edges.specs.declared.SuperblockFilterEdge.{SuperblockFilterEdge}
use Rattle.c_edges.specs.EdgeEntry.{entry_of, mi_of}
use Rattle.c_edges.proofs.springspade_edge.Goals as goal

pub returns-in-Err : goal.returns-in-Err
returns-in-Err c =
    let a = c.args in
    let is = rw (to_z-of_z c.ranges.ref_frame) at c.in-Err.ensures in
    let place : place_of c.in-Err.fault ≡ 0 =
    ap (λ (o : Outcome SuperblockFilterEdge). (returned o).place) is ∙ edge_place a.pass a.mi_row a.mi_col a.edge a.i a.sub_x a.sub_y a.mi_cols a.mi_rows (mi_of a.mi_size a.tx_size a.skip a.ref_frame) in
    c.from-in-Err.ensures ∙ (rw place at (ap entry_of is))
