-- Cases, run by the definitions: document 01's case S, and an order of work that is none and ends with other samples.
-- Assumes nothing.
use Rattle.std.specs.Prelude.{◌≡◌, refl, ◌≢◌, List, [], ◌∷◌, ◌++◌, ℕ, get_or, replicate}
use Rattle.std.proofs.Common.{ap, arith}
use Rattle.base.specs.Filled.{filled}
use Rattle.base.specs.First.{found, first_from}
use Rattle.base.specs.Notation.{clip3}
use Rattle.base.specs.Outcome.{Outcome, refused, returned}
use Rattle.base.specs.Width.{Byte}
use Rattle.cells.specs.Cell.{cell_of}
use Rattle.bad_words.specs.BadWord.{bad_word}
use Rattle.decisions.specs.Decision.{cell_index, decision_by, decision, levelless}
use Rattle.edge_steps.specs.FilterSize.{filter_size}
use Rattle.edge_steps.specs.SuperblockFilter.{loop_cell, is_block_edge, is_tx_edge, is32_edge, on_screen, apply_filter}
use Rattle.positions.specs.Positions.{luma_x, luma_y, plane_x, plane_y}
use Rattle.pass_edges.specs.PassEdges.{edge_count, edge_len}
use Rattle.geometry.specs.Frame.{bad_subsampling, bad_frame_size, bad_start}
use Rattle.geometry.specs.declared.Pass.TheVariants.{Vertical}
use Rattle.line.specs.Masks.{hev_mask, filter_mask, flat_at, flat_mask}
use Rattle.line.specs.NarrowFilter.{c, sample, narrow_filter}
use Rattle.line.specs.SampleFiltering.{sample_filtering}
use Rattle.order.specs.Grid.{strip}
use Rattle.order.specs.Order.{run}
use Rattle.strength.specs.Strength.{limit_of, strength_of}
use Rattle.wide_filter.specs.WideFilter.{sum_to, smoothed, wide_filter}
use Rattle.window.specs.Stencil.{gather, scatter, applied}
use Rattle.window.specs.Window.{bad_window, bad_sample}
use Rattle.window.specs.declared.WindowShape.{WindowShape}
use Rattle.decided.specs.Decided.{Position, position, Setting, setting_of, is_decided, decided}
use Rattle.pass.specs.Pass.{line_of, step, superblock_loop_filter, superblock_loop_filter_cells}

-- two cells beside each other, 8 by 8 samples each, level 32
abbrev over : ℕ → Setting
over word = setting_of 0 8 0 0 2 1 0 0 0 (word ∷ word ∷ [])

-- case S's word has transform 1: the edge at x = 8 is decided, over 8 rows
case_s : decided (over 290848768) Vertical ≡ strip position 2 0 8
unfolding decided is_decided decision decision_by cell_index cell_of on_screen luma_x luma_y loop_cell is_block_edge is_tx_edge is32_edge filter_size apply_filter edge_count edge_len
case_s = refl

-- over one row of 16 samples, 100s and then 104s, it leaves what M9 says
abbrev row16 : WindowShape
row16 = record { width = 16; height = 1; stride = 16; top = 0 }

case_s_samples : superblock_loop_filter row16 (over 290848768) Vertical (replicate 8 100 ++ replicate 8 104)
    ≡ replicate 5 100 ++ 101 ∷ 101 ∷ 102 ∷ 103 ∷ 103 ∷ replicate 6 104
unfolding superblock_loop_filter decided is_decided decision decision_by cell_index cell_of on_screen luma_x luma_y loop_cell is_block_edge is_tx_edge is32_edge filter_size apply_filter edge_count edge_len plane_x plane_y step line_of strength_of limit_of applied gather scatter sample_filtering filter_mask flat_at flat_mask wide_filter smoothed sum_to filled clip3
case_s_samples = refl

-- with its second cell without level it is refused, with only its first it is not
abbrev answered : List ℕ → Outcome (List ℕ)
answered cells = superblock_loop_filter_cells Byte row16 0 8 0 0 2 1 0 0 0 0 cells (replicate 16 100)

case_s_levelless : answered (290848768 ∷ 290455552 ∷ []) ≡ refused 14 128
unfolding superblock_loop_filter_cells bad_subsampling bad_frame_size bad_start bad_word bad_window bad_sample found first_from levelless decision decision_by cell_index cell_of on_screen luma_x luma_y loop_cell is_block_edge is_tx_edge is32_edge filter_size apply_filter edge_count edge_len
case_s_levelless = refl

case_s_first : returned (answered (290455552 ∷ 290848768 ∷ [])) ≡ record { number = 0; place = 0 }
unfolding superblock_loop_filter_cells bad_subsampling bad_frame_size bad_start bad_word bad_window bad_sample found first_from levelless decision decision_by cell_index cell_of on_screen luma_x luma_y loop_cell is_block_edge is_tx_edge is32_edge filter_size apply_filter edge_count edge_len
case_s_first = refl

-- With transform 0 the edges at x = 4, 8 and 12 are decided. Edge 1 changes the samples at 2 to 5, of which edge 2 reads two: after
-- edge 1 its step of 33 is above the limit of 32, and nothing is filtered there; before it, the edge is.
abbrev steps : List ℕ
steps = replicate 4 96 ++ replicate 2 100 ++ replicate 2 132 ++ replicate 8 136

abbrev falling : List Position
falling = strip position 3 0 8 ++ strip position 2 0 8 ++ strip position 1 0 8

edges_1_to_3 : decided (over 286654464) Vertical ≡ strip position 1 0 8 ++ strip position 2 0 8 ++ strip position 3 0 8
unfolding decided is_decided decision decision_by cell_index cell_of on_screen luma_x luma_y loop_cell is_block_edge is_tx_edge is32_edge filter_size apply_filter edge_count edge_len
edges_1_to_3 = refl

other_end : superblock_loop_filter row16 (over 286654464) Vertical steps ≢ run (step row16 (over 286654464) Vertical) falling steps
unfolding superblock_loop_filter decided is_decided decision decision_by cell_index cell_of on_screen luma_x luma_y loop_cell is_block_edge is_tx_edge is32_edge filter_size apply_filter edge_count edge_len plane_x plane_y step line_of strength_of limit_of applied gather scatter sample_filtering filter_mask hev_mask narrow_filter sample c clip3
other_end e = let z : ◌≡◌ {A = ℕ} 136 134 = ap (λ (w : List ℕ). get_or w 8 0) e in omega arith
