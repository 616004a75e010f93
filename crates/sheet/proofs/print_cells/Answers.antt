use Rattle.std.proofs.Common.{◌≡◌, sym, ◌∙◌, List, ℕ, ◌*◌, Option, ltb}
use Rattle.base.specs.First.{first_found, no_place}
use Rattle.bad_words.specs.BadWord.{bad_cell}
use Rattle.decided.specs.Decided.{superblock_of}
use Rattle.decisions.specs.Decision.{levelless}
use Rattle.geometry.specs.declared.Pass.{Pass}
use Rattle.geometry.specs.declared.Superblock.{Superblock}
use Rattle.sheet_header.specs.declared.SheetHeader.{SheetHeader}
use Rattle.decided.proofs.KeyRunLaws.{key_runs_lem}
use Rattle.pass_edges.specs.PassEdges.{pass_of, edge_count}
use Rattle.sheet.specs.SheetLaws.{cell_count, grid_places, levelless_at, cells_good}
use Rattle.text.specs.PutsLaws.{puts_then}
use Rattle.word_bytes.specs.WordBytes.{words_of}
use Rattle.word_bytes.specs.WordBytesLaws.{words_of-length}
use Rattle.sheet.proofs.print_cells.Goals as goal

pub first_bad_word_unchecked-requires : goal.first_bad_word_unchecked-requires
first_bad_word_unchecked-requires c = rw (c.cell_count_unchecked-count.ensures, words_of-length c.args.cells.now) c.requires.3

pub keys_unchecked-keys-requires : goal.keys_unchecked-keys-requires
keys_unchecked-keys-requires c = rw (c.superblock_of-s.ensures, c.from.ensures, words_of-length c.args.cells.now) c.requires.3

-- the search for a level that lacks, as the sheet's laws name it
searched : (h : SheetHeader) (cells : List ℕ) (s : Superblock) (pass : Pass) (found : Option ℕ)
    → s ≡ superblock_of h.subx h.suby h.cols h.rows h.row h.col h.plane → pass ≡ pass_of h.pass
    → found ≡ first_found (levelless s pass (ltb 0 h.plane) cells) (64 * edge_count s pass) → found ≡ first_found (levelless_at h cells) (grid_places h)
searched h cells s pass found is by e = rw (is, by) at e

pub returns : goal.returns
returns c =
    let h = c.args.h in
    let cells = words_of c.args.cells.now in
    let told = c.keys_unchecked-keys.ensures in
    let good = no_place (bad_cell cells) (cell_count h) (rw c.cell_count_unchecked-count.ensures at (sym c.first_bad_word_unchecked.ensures ∙ c.in_default.is)) in
    let present = no_place (levelless_at h cells) (grid_places h) (sym (searched h cells _ _ _ (rw c.from.ensures at c.superblock_of-s.ensures) c.pass_of-pass.ensures told.2) ∙ c.in_default-lacking.is) in
    let lines = rw (key_runs_lem _ _ _ _ _ _ told.0 told.1, c.superblock_of-s.ensures, c.from.ensures, c.pass_of-pass.ensures) at c.print_runs.ensures in
    rw (cells_good h cells good present) (puts_then _ _ c.print_first_unchecked.ensures.0 lines)
