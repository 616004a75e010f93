-- The page, computed: Table M and case S of document 01.
-- Assumes nothing.
use Rattle.std.specs.Prelude.{◌≡◌, refl, Bool, true, false, cond, List, [], ◌∷◌, ◌++◌, ℕ, zero, suc, eqb, ltb, pos, neg_ℤ}
use Rattle.base.specs.Notation.{clip3}
use Rattle.section_8_8.specs.LoopFilterProcess.{Header, Frame, Plane, for_to, lvl_seg, lvl_lookup, x, y, loop_col, loop_row, mi_size, tx_sz, ss_size, uv_tx_size, sb_size, is_intra, mode_type, is_block_edge, is_tx_edge, is32_edge, on_screen, apply_filter, filter_size, lvl, limit_of, blimit_of, thresh_of, Line, hev_mask, filter_mask, flat_mask, flat_mask2, c, sample, narrow_filter, sum_to, smoothed, wide_filter, sample_filtering, line_at, stored, filtered_at, superblock_pass, loop_filter_frame}

-- ---- Table M

-- level 40, deltas enabled, those of setup_past_independence( ); segment 0 has the absolute level 20 where on
abbrev header : Bool → Header
header on =
    record {
      loop_filter_level = 40;
      delta_enabled = true;
      ref_deltas = λ ref. cond (eqb ref 0) (pos 1) (cond (eqb ref 1) (pos 0) (neg_ℤ (pos 1)));
      mode_deltas = λ mode. pos 0;
      absolute = on;
      feature_active = λ segment. cond (eqb segment 0) on false;
      feature_data = λ segment. pos 20;
    }

abbrev strength : (lvl sharpness : ℕ) → List ℕ
strength lvl sharpness = limit_of lvl sharpness ∷ blimit_of lvl sharpness ∷ thresh_of lvl ∷ []

-- all p the one, all q the other
abbrev flanks : (p q : ℕ) → Line
flanks p q = record { p = λ k. p; q = λ k. q }

-- n taps on each side of a line that is filtered with the strength of level 32 at sharpness 0
abbrev side : Line → (n : ℕ) → List ℕ
side l zero = []
side l (suc n) = l.p n ∷ (side l n ++ l.q n ∷ [])

abbrev filtered : (B size n : ℕ) → Line → List ℕ
filtered B size n l = side (sample_filtering B size (limit_of 32 0) (blimit_of 32 0) (thresh_of 32) l) n

-- M6 has one number for intra: document 01's second is its own until request U7
abbrev given : List (List ℕ)
given =
    strength 0 0
    ∷ strength 63 0
    ∷ strength 63 7
    ∷ strength 32 4
    ∷ strength 32 5
    ∷ (lvl_lookup (header false) 0 0 0 ∷ lvl_lookup (header false) 0 1 0 ∷ lvl_lookup (header false) 0 2 0 ∷ lvl_lookup (header false) 0 3 0 ∷ [])
    ∷ (lvl_lookup (header true) 0 0 0 ∷ [])
    ∷ filtered 8 0 2 (flanks 100 104)
    ∷ filtered 8 1 3 (flanks 100 104)
    ∷ filtered 8 2 7 (flanks 100 104)
    ∷ filtered 8 0 2 (record { p = λ k. cond (eqb k 0) 110 100; q = λ k. 104 })
    ∷ filtered 10 0 2 (flanks 400 416)
    ∷ []

abbrev stated : List (List ℕ)
stated =
    (1 ∷ 5 ∷ 0 ∷ [])
    ∷ (63 ∷ 193 ∷ 3 ∷ [])
    ∷ (2 ∷ 132 ∷ 3 ∷ [])
    ∷ (5 ∷ 73 ∷ 2 ∷ [])
    ∷ (4 ∷ 72 ∷ 2 ∷ [])
    ∷ (42 ∷ 40 ∷ 38 ∷ 38 ∷ [])
    ∷ (22 ∷ [])
    ∷ (101 ∷ 101 ∷ 102 ∷ 103 ∷ [])
    ∷ (101 ∷ 101 ∷ 102 ∷ 103 ∷ 103 ∷ 104 ∷ [])
    ∷ (100 ∷ 101 ∷ 101 ∷ 101 ∷ 101 ∷ 102 ∷ 102 ∷ 102 ∷ 103 ∷ 103 ∷ 103 ∷ 103 ∷ 104 ∷ 104 ∷ [])
    ∷ (100 ∷ 107 ∷ 107 ∷ 104 ∷ [])
    ∷ (403 ∷ 406 ∷ 410 ∷ 413 ∷ [])
    ∷ []

pub table_m : given ≡ stated
unfolding lvl_seg lvl_lookup clip3 limit_of blimit_of thresh_of hev_mask filter_mask flat_mask flat_mask2 c sample narrow_filter sum_to smoothed wide_filter sample_filtering
table_m = refl

-- ---- case S: two cells beside each other, 8 by 8 samples with one transform each, intra, level 32

abbrev frame : Frame
frame =
    record {
      bit_depth = 8;
      sharpness = 0;
      subsampling_x = 0;
      subsampling_y = 0;
      mi_cols = 2;
      mi_rows = 1;
      mi_size = λ row col. 3;
      tx_size = λ row col. 1;
      skip = λ row col. false;
      ref_frame = λ row col. pos 0;
      y_mode = λ row col. 0;
      segment_id = λ row col. 0;
    }

-- the positions that pass 0 filters, each as edge, i, size
abbrev positions : List (List ℕ)
positions =
    for_to 16 (λ edge. for_to 64 (λ i l.
    cond (apply_filter frame 0 0 0 0 edge i) (l ++ (edge ∷ i ∷ filter_size frame 0 0 0 0 edge i ∷ []) ∷ []) l)) []

pub case_s : positions ≡ (2 ∷ 0 ∷ 1 ∷ []) ∷ (2 ∷ 1 ∷ 1 ∷ []) ∷ (2 ∷ 2 ∷ 1 ∷ []) ∷ (2 ∷ 3 ∷ 1 ∷ []) ∷ (2 ∷ 4 ∷ 1 ∷ []) ∷ (2 ∷ 5 ∷ 1 ∷ []) ∷ (2 ∷ 6 ∷ 1 ∷ []) ∷ (2 ∷ 7 ∷ 1 ∷ []) ∷ []
unfolding for_to x y loop_col loop_row mi_size tx_sz sb_size is_intra is_block_edge is_tx_edge is32_edge on_screen apply_filter filter_size
case_s = refl

-- a row of 100s and 104s after the pass
abbrev after : Plane
after = superblock_pass frame (λ segment ref mode. 32) 0 0 0 0 (λ x y. cond (ltb x 8) 100 104)

abbrev row_of : Plane → (n : ℕ) → List ℕ
row_of s zero = []
row_of s (suc n) = row_of s n ++ s n 0 ∷ []

pub case_s_samples : row_of after 16 ≡ 100 ∷ 100 ∷ 100 ∷ 100 ∷ 100 ∷ 101 ∷ 101 ∷ 102 ∷ 103 ∷ 103 ∷ 104 ∷ 104 ∷ 104 ∷ 104 ∷ 104 ∷ 104 ∷ []
unfolding for_to x y loop_col loop_row mi_size tx_sz sb_size is_intra mode_type is_block_edge is_tx_edge is32_edge on_screen apply_filter filter_size lvl limit_of blimit_of thresh_of hev_mask filter_mask flat_mask flat_mask2 sum_to smoothed wide_filter sample_filtering line_at stored filtered_at superblock_pass clip3 c sample narrow_filter
case_s_samples = refl

-- and all three planes after the whole frame, at level 32
abbrev plain : Header
plain =
    record {
      loop_filter_level = 32;
      delta_enabled = false;
      ref_deltas = λ ref. pos 0;
      mode_deltas = λ mode. pos 0;
      absolute = false;
      feature_active = λ segment. false;
      feature_data = λ segment. pos 0;
    }

abbrev framed : (plane : ℕ) → List ℕ
framed plane = row_of (loop_filter_frame plain frame (λ k x y. cond (ltb x 8) 100 104) plane) 16

pub case_s_frame : framed 0 ++ framed 1 ++ framed 2 ≡ row_of after 16 ++ row_of after 16 ++ row_of after 16
unfolding for_to lvl_seg lvl_lookup x y loop_col loop_row mi_size tx_sz ss_size uv_tx_size sb_size is_intra mode_type is_block_edge is_tx_edge is32_edge on_screen apply_filter filter_size lvl limit_of blimit_of thresh_of hev_mask filter_mask flat_mask flat_mask2 sum_to smoothed wide_filter sample_filtering line_at stored filtered_at superblock_pass loop_filter_frame clip3 c sample narrow_filter
case_s_frame = refl
