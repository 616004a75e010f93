-- Laws of the edge facts for their users.
-- Assumes nothing.
use Rattle.std.specs.Prelude.{◌≡◌, refl, ℕ, Bool, true, false, ltb}
use Rattle.base.specs.Outcome.{accepted, refuse, returned}
use Rattle.blocks.specs.ModeInfo.{bad_block}
use Rattle.geometry.specs.Frame.{bad_subsampling, bad_frame_size, bad_start}
use Rattle.pass_edges.specs.PassEdges.{pass_of}
use Rattle.edges.specs.Edge.{edge_facts, off_grid, superblock_of, superblock_filter_edge}
use Rattle.edges.specs.declared.SuperblockFilterEdge.{SuperblockFilterEdge}
use Rattle.edges.specs.declared.SuperblockFilterMi.{SuperblockFilterMi}

places : (a b c d e f g : Bool) (facts : SuperblockFilterEdge) → (returned (refuse a 3 0 (refuse b 4 0 (refuse c 5 0 (refuse d 8 0 (refuse e 9 0 (refuse f 10 0 (refuse g 16 0 (accepted facts))))))))).place ≡ 0
places true b c d e f g facts = refl
places false true c d e f g facts = refl
places false false true d e f g facts = refl
places false false false true e f g facts = refl
places false false false false true f g facts = refl
places false false false false false true g facts = refl
places false false false false false false true facts = refl
places false false false false false false false facts = refl

-- no refusal of a position has a place
pub edge_place : (pass row col edge i sub_x sub_y mi_cols mi_rows : ℕ) (mi : SuperblockFilterMi) → (returned (superblock_filter_edge pass row col edge i sub_x sub_y mi_cols mi_rows mi)).place ≡ 0
unfolding superblock_filter_edge
edge_place pass row col edge i sub_x sub_y mi_cols mi_rows mi =
    let s = superblock_of sub_x sub_y mi_cols mi_rows row col in
    places (bad_subsampling sub_x sub_y) (bad_frame_size mi_cols mi_rows) (bad_start row mi_rows) (bad_block mi.mi_size mi.tx_sz mi.skip) (ltb 1 pass) (bad_start col mi_cols) (off_grid s (pass_of pass) edge i) (edge_facts s (pass_of pass) edge i mi)
