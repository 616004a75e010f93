use Rattle.std.proofs.Common.{sym, ◌∙◌}
use Rattle.byte_pass.specs.ChunkKeysLaws.{Cells, eights, fours}
use Rattle.byte_pass.proofs.chunk_keys.chunk_keys.Goals as goal
use Rattle.byte_pass.proofs.chunk_keys.chunk_keys.Goals.{Then-along-eq8, Else-along-eq8}

two : (c : Then-along-eq8) → let a = c.args in Cells a.c.s.of a.c.pass a.keys.now.outer a.keys.now.inner a.c.edge a.c.m 8 2 c.of_edge_unchecked-cells.result.now
two c =
    let a = c.args in
    let cells = c.of_edge_unchecked-cells.ensures in
    eights a.c.s.of a.c.pass _ _ a.c.edge a.c.m _ a.keys.now.keyed a.c.edge_small a.c.m_small cells.0 cells.1 (sym c.along.ensures.0 ∙ c.if-along-eq8.true)

four : (c : Else-along-eq8) → let a = c.args in Cells a.c.s.of a.c.pass a.keys.now.outer a.keys.now.inner a.c.edge a.c.m 4 4 c.of_edge_unchecked-cells.result.now
four c =
    let a = c.args in
    let cells = c.of_edge_unchecked-cells.ensures in
    fours a.c.s.of a.c.pass _ _ a.c.edge a.c.m _ a.keys.now.keyed a.c.edge_small a.c.m_small cells.0 cells.1 (λ e. c.if-along-eq8.false (c.along.ensures.0 ∙ e))

pub returns-then-along-eq8 : goal.returns-then-along-eq8
returns-then-along-eq8 c = (two (goal.at.returns-then-along-eq8 c).Then-along-eq8).told _ c.keys_of_cells.ensures

pub keys_of_cells-requires : goal.keys_of_cells-requires
keys_of_cells-requires c = (two (goal.at.keys_of_cells-requires c).Then-along-eq8).asked

pub returns : goal.returns
returns c = (four (goal.at.returns c).Else-along-eq8).told _ c.keys_of_cells-2.ensures

pub keys_of_cells-requires-2 : goal.keys_of_cells-requires-2
keys_of_cells-requires-2 c = (four (goal.at.keys_of_cells-requires-2 c).Else-along-eq8).asked

pub slice_bounds-keys_of_cells-end-2 : goal.slice_bounds-keys_of_cells-end-2
slice_bounds-keys_of_cells-end-2 c = (four (goal.at.slice_bounds-keys_of_cells-end-2 c).Else-along-eq8).inside
