-- Document 01's refusals of a pass, in the order of their numbers.
-- Assumes nothing.
use Rattle.std.specs.Prelude.{Bool, not, ◌||◌, List, ℕ, ◌*◌, ◌^◌, ltb, length}
use Rattle.base.specs.First.{refuse_first}
use Rattle.base.specs.Outcome.{Outcome, refuse}
use Rattle.bad_words.specs.BadWord.{bad_cell}
use Rattle.decided.specs.Decided.{Setting}
use Rattle.decisions.specs.Decision.{levelless}
use Rattle.geometry.specs.Frame.{bad_subsampling, bad_frame_size, bad_start, cells_from}
use Rattle.geometry.specs.declared.Pass.{Pass}
use Rattle.pass_edges.specs.PassEdges.{edge_count}
use Rattle.window.specs.Window.{bad_window, bad_sample}
use Rattle.window.specs.declared.WindowShape.{WindowShape}

-- refusals 1 to 10, which numbers decide, and what follows them; known: whether the samples' width admits the depth
abbrev pub numbers_refused : {A : Type 0} → (sharpness : ℕ) (known : Bool) (sub_x sub_y mi_cols mi_rows row col plane pass cells_lent : ℕ) → Outcome A → Outcome A
numbers_refused sharpness known sub_x sub_y mi_cols mi_rows row col plane pass cells_lent after =
    refuse (ltb 7 sharpness) 1 0
    (refuse (not known) 2 0
    (refuse (bad_subsampling sub_x sub_y) 3 0
    (refuse (bad_frame_size mi_cols mi_rows) 4 0
    (refuse (bad_start row mi_rows) 5 0
    (refuse (ltb cells_lent (cells_from row mi_cols mi_rows)) 7 0
    (refuse (ltb 2 plane || ltb 1 pass) 9 0
    (refuse (bad_start col mi_cols) 10 0
    after)))))))

-- refusals 11 to 14, which lists decide, and what follows them
abbrev pub lists_refused : {A : Type 0} → WindowShape → Setting → Pass → (samples : List ℕ) → Outcome A → Outcome A
lists_refused g t pass samples after =
    let s = t.superblock in
    refuse_first (bad_cell t.cells) (cells_from s.row s.cols s.rows) 11
    (refuse (bad_window g (length samples)) 12 0
    (refuse_first (bad_sample g (2 ^ t.depth) samples) (g.height * g.width) 13
    (refuse_first (levelless s pass t.chroma t.cells) (64 * edge_count s pass) 14
    after)))
