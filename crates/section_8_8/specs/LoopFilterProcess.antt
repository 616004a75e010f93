-- The loop filter process of VP9-S, section 8.8, for a whole frame: from header values and mode info to three planes, in the
-- standard's order and with its names and step numbers. Nothing is called the standard's that is not proved equal to this page.
-- A plane is a function of a sample's x and y, mode info one of a cell's row and column. That no tap is read outside of the frame
-- is a theorem (`taps_in_plane`). Assumes nothing.
use Rattle.std.specs.Prelude.{Bool, false, cond, not, ◌&&◌, ◌||◌, List, [], ◌∷◌, ℕ, zero, suc, ◌+◌, ◌-◌, ◌*◌, ◌/◌, ◌%◌, min, max, eqb, leb, ltb, ℤ, pos, negsuc, neg_ℤ, nat_abs, ◌+ℤ◌, ◌-ℤ◌, ◌*ℤ◌, get_or}
use Rattle.std.specs.Int.Signed.{le_z}
use Rattle.base.specs.Notation.{clip3, ◌<<◌, ◌>>◌, shl_z, asr_z, abs_diff, round2, round2_z}

-- ---- what the process is given
-- header values of 8.8.1; absolute is segmentation_abs_or_delta_update, and the feature is SEG_LVL_ALT_L
pub record Header : Type 0 where
  pub loop_filter_level : ℕ
  pub delta_enabled : Bool
  pub ref_deltas : (ref : ℕ) → ℤ
  pub mode_deltas : (mode : ℕ) → ℤ
  pub absolute : Bool
  pub feature_active : (segment : ℕ) → Bool
  pub feature_data : (segment : ℕ) → ℤ

-- header values of 8.8.2 to 8.8.5, and the mode info of each cell of 8 by 8 luma samples; refFrame is ref_frame[ 0 ]
pub record Frame : Type 0 where
  pub bit_depth : ℕ
  pub sharpness : ℕ
  pub subsampling_x : ℕ
  pub subsampling_y : ℕ
  pub mi_cols : ℕ
  pub mi_rows : ℕ
  pub mi_size : (row col : ℕ) → ℕ
  pub tx_size : (row col : ℕ) → ℕ
  pub skip : (row col : ℕ) → Bool
  pub ref_frame : (row col : ℕ) → ℤ
  pub y_mode : (row col : ℕ) → ℕ
  pub segment_id : (row col : ℕ) → ℕ

abbrev pub Plane : Type 0
Plane = (x y : ℕ) → ℕ

-- for k = 0 .. n - 1
unfoldable pub for_to : {A : Type 0} → (n : ℕ) → ((k : ℕ) → A → A) → A → A
for_to zero body a = a
for_to (suc n) body a = body n (for_to n body a)

-- ---- 8.8.1 levels of a segment
abbrev pub clip63 : ℤ → ℕ
clip63 v = nat_abs (clip3 (pos 0) (pos 63) v)

unfoldable pub lvl_seg : Header → (segment : ℕ) → ℕ  -- steps 1 and 2
lvl_seg h segment =
    let datum = h.feature_data segment in
    let added = datum +ℤ pos h.loop_filter_level in
    cond (h.feature_active segment) (clip63 (cond h.absolute datum added)) h.loop_filter_level

-- steps 3 and 4: LvlLookup[ segment ][ ref ][ mode ]; ref 0 is intra, whose level does not depend on mode
unfoldable pub lvl_lookup : Header → (segment ref mode : ℕ) → ℕ
lvl_lookup h segment ref mode =
    let n_shift = h.loop_filter_level >> 5 in
    let by_ref = pos (lvl_seg h segment) +ℤ shl_z (h.ref_deltas ref) n_shift in
    let by_mode = by_ref +ℤ shl_z (h.mode_deltas mode) n_shift in
    cond h.delta_enabled (clip63 (cond (eqb ref 0) by_ref by_mode)) (lvl_seg h segment)

-- ---- 10.2 by block size: BLOCK_4X4 is 0, 4X8 1, 8X4 2, 8X8 3, .., 16X16 6, .., 64X64 12, BLOCK_INVALID 14
abbrev pub num8x8_blocks_wide : (size : ℕ) → ℕ
num8x8_blocks_wide size = get_or (1 ∷ 1 ∷ 1 ∷ 1 ∷ 1 ∷ 2 ∷ 2 ∷ 2 ∷ 4 ∷ 4 ∷ 4 ∷ 8 ∷ 8 ∷ []) size 0

abbrev pub num8x8_blocks_high : (size : ℕ) → ℕ
num8x8_blocks_high size = get_or (1 ∷ 1 ∷ 1 ∷ 1 ∷ 2 ∷ 1 ∷ 2 ∷ 4 ∷ 2 ∷ 4 ∷ 8 ∷ 4 ∷ 8 ∷ []) size 0

abbrev pub max_tx_size : (size : ℕ) → ℕ  -- VP9-S has no entry for BLOCK_INVALID: the 0 is document 01's
max_tx_size size = get_or (0 ∷ 0 ∷ 0 ∷ 1 ∷ 1 ∷ 1 ∷ 2 ∷ 2 ∷ 2 ∷ 3 ∷ 3 ∷ 3 ∷ 3 ∷ []) size 0

-- ss_size_lookup[ size ][ subX ][ subY ], the size of a chroma block; a list for each subX and subY
unfoldable pub ss_size : (size sub_x sub_y : ℕ) → ℕ
ss_size size sub_x sub_y =
    let whole : List ℕ = 0 ∷ 1 ∷ 2 ∷ 3 ∷ 4 ∷ 5 ∷ 6 ∷ 7 ∷ 8 ∷ 9 ∷ 10 ∷ 11 ∷ 12 ∷ [] in
    let high : List ℕ = 14 ∷ 0 ∷ 14 ∷ 2 ∷ 3 ∷ 14 ∷ 5 ∷ 6 ∷ 14 ∷ 8 ∷ 9 ∷ 14 ∷ 11 ∷ [] in
    let wide : List ℕ = 14 ∷ 14 ∷ 0 ∷ 1 ∷ 14 ∷ 3 ∷ 4 ∷ 14 ∷ 6 ∷ 7 ∷ 14 ∷ 9 ∷ 10 ∷ [] in
    let both : List ℕ = 14 ∷ 14 ∷ 14 ∷ 0 ∷ 1 ∷ 2 ∷ 3 ∷ 4 ∷ 5 ∷ 6 ∷ 7 ∷ 8 ∷ 9 ∷ [] in
    get_or (cond (eqb sub_x 0) (cond (eqb sub_y 0) whole high) (cond (eqb sub_y 0) wide both)) size 14

unfoldable pub uv_tx_size : (tx_size mi_size sub_x sub_y : ℕ) → ℕ  -- get_uv_tx_size( )
uv_tx_size tx_size mi_size sub_x sub_y = cond (ltb mi_size 3) 0 (min tx_size (max_tx_size (ss_size mi_size sub_x sub_y)))

-- ---- 8.8.2 one superblock, plane and pass: pass 0 has vertical edges, dx 1 and dy 0, pass 1 horizontal ones, dx 0 and dy 1
abbrev pub sub_x : Frame → (plane : ℕ) → ℕ
sub_x f plane = cond (eqb plane 0) 0 f.subsampling_x

abbrev pub sub_y : Frame → (plane : ℕ) → ℕ
sub_y f plane = cond (eqb plane 0) 0 f.subsampling_y

abbrev pub sub : Frame → (plane pass : ℕ) → ℕ
sub f plane pass = cond (eqb pass 0) (sub_x f plane) (sub_y f plane)

abbrev pub edge_len : Frame → (plane pass : ℕ) → ℕ
edge_len f plane pass = 64 >> cond (eqb pass 0) (sub_y f plane) (sub_x f plane)

-- what a step makes of a cell's mode info
unfoldable pub sb_size : (sub mi_size : ℕ) → ℕ  -- 7
sb_size sub mi_size = cond (eqb sub 0) mi_size (max 6 mi_size)

unfoldable pub is_intra : (ref_frame : ℤ) → Bool  -- 9: INTRA_FRAME is 0
is_intra ref_frame = le_z ref_frame (pos 0)

unfoldable pub mode_type : (y_mode : ℕ) → ℕ  -- 8.8.4: NEARESTMV is 10, NEARMV 11, NEWMV 13
mode_type y_mode = cond (eqb y_mode 10 || eqb y_mode 11 || eqb y_mode 13) 1 0

-- the steps at position i of an edge of the superblock at (row, col)
module _ (f : Frame) (plane pass row col edge i : ℕ) where
  unfoldable pub x : ℕ  -- 1
  x = col * 8 + cond (eqb pass 0) (edge * (4 << sub_x f plane)) (i << sub_x f plane)

  unfoldable pub y : ℕ
  y = row * 8 + cond (eqb pass 0) (i << sub_y f plane) (edge * (4 << sub_y f plane))

  unfoldable pub loop_col : ℕ  -- 2
  loop_col = ((x >> 3) >> sub_x f plane) << sub_x f plane

  unfoldable pub loop_row : ℕ  -- 3
  loop_row = ((y >> 3) >> sub_y f plane) << sub_y f plane

  unfoldable pub mi_size : ℕ  -- 4
  mi_size = f.mi_size loop_row loop_col

  unfoldable pub tx_sz : ℕ  -- 5, 6
  tx_sz =
      let tx_size = f.tx_size loop_row loop_col in
      cond (eqb plane 0) tx_size (uv_tx_size tx_size mi_size f.subsampling_x f.subsampling_y)

  unfoldable pub is_block_edge : Bool  -- 7, 10
  is_block_edge =
      let size = sb_size (sub f plane pass) mi_size in
      cond (eqb pass 0) (eqb (x % (8 * num8x8_blocks_wide size)) 0) (eqb (y % (8 * num8x8_blocks_high size)) 0)

  unfoldable pub is_tx_edge : Bool  -- 11
  is_tx_edge =
      let odd_end = eqb (sub_x f plane) 1 && eqb (f.mi_cols % 2) 1 && eqb (edge % 2) 1 && leb (f.mi_cols * 8) (x + 8) in
      cond (eqb pass 1 && odd_end) false (eqb (edge % (1 << tx_sz)) 0)

  unfoldable pub is32_edge : Bool  -- 12
  is32_edge = eqb (edge % 8) 0

  unfoldable pub on_screen : Bool  -- 13
  on_screen =
      not (leb (8 * f.mi_cols) x || leb (8 * f.mi_rows) y || (eqb pass 0 && eqb x 0) || (eqb pass 1 && eqb y 0))

  unfoldable pub apply_filter : Bool  -- 8, 9, 14
  apply_filter =
      let transform = is_tx_edge && (is_intra (f.ref_frame loop_row loop_col) || not (f.skip loop_row loop_col)) in
      on_screen && (is_block_edge || transform)

  unfoldable pub filter_size : ℕ  -- 15, 8.8.3: TX_4X4 is 0, TX_8X8 1, TX_16X16 2
  filter_size =
      let base_size = cond (eqb tx_sz 0 && is32_edge) 1 (min 2 tx_sz) in
      let last_col = eqb pass 0 && eqb (sub_x f plane) 1 && eqb (x >> 3) (f.mi_cols - 1) in
      let last_row = eqb pass 1 && eqb (sub_y f plane) 1 && eqb (y >> 3) (f.mi_rows - 1) in
      cond (eqb base_size 2 && (last_col || last_row)) 1 base_size

  unfoldable pub lvl : ((segment ref mode : ℕ) → ℕ) → ℕ  -- 16, 8.8.4, for a table LvlLookup
  lvl table =
      table (f.segment_id loop_row loop_col) (nat_abs (f.ref_frame loop_row loop_col)) (mode_type (f.y_mode loop_row loop_col))

-- ---- 8.8.4 strength of a level
unfoldable pub limit_of : (lvl sharpness : ℕ) → ℕ
limit_of lvl sharpness =
    let shift : ℕ = cond (ltb 4 sharpness) 2 (cond (ltb 0 sharpness) 1 0) in
    cond (ltb 0 sharpness) (nat_abs (clip3 (pos 1) (pos (9 - sharpness)) (pos (lvl >> shift)))) (max 1 (lvl >> shift))

unfoldable pub blimit_of : (lvl sharpness : ℕ) → ℕ
blimit_of lvl sharpness = 2 * (lvl + 2) + limit_of lvl sharpness

unfoldable pub thresh_of : (lvl : ℕ) → ℕ
thresh_of lvl = lvl >> 4

-- ---- 8.8.5 masks of a line of taps; B is BitDepth
pub record Line : Type 0 where
  pub p : (k : ℕ) → ℕ
  pub q : (k : ℕ) → ℕ

unfoldable pub hev_mask : (B thresh : ℕ) → Line → Bool
hev_mask B thresh l =
    ltb (thresh << (B - 8)) (abs_diff (l.p 1) (l.p 0)) || ltb (thresh << (B - 8)) (abs_diff (l.q 1) (l.q 0))

unfoldable pub filter_mask : (B limit blimit : ℕ) → Line → Bool
filter_mask B limit blimit l =
    let most = limit << (B - 8) in
    leb (abs_diff (l.p 3) (l.p 2)) most && leb (abs_diff (l.p 2) (l.p 1)) most && leb (abs_diff (l.p 1) (l.p 0)) most
    && leb (abs_diff (l.q 1) (l.q 0)) most && leb (abs_diff (l.q 2) (l.q 1)) most && leb (abs_diff (l.q 3) (l.q 2)) most
    && leb (abs_diff (l.p 0) (l.q 0) * 2 + abs_diff (l.p 1) (l.q 1) / 2) (blimit << (B - 8))

abbrev pub flat_at : (B : ℕ) → Line → (k : ℕ) → Bool
flat_at B l k = leb (abs_diff (l.p k) (l.p 0)) (1 << (B - 8)) && leb (abs_diff (l.q k) (l.q 0)) (1 << (B - 8))

unfoldable pub flat_mask : (B : ℕ) → Line → Bool
flat_mask B l = flat_at B l 1 && flat_at B l 2 && flat_at B l 3

unfoldable pub flat_mask2 : (B : ℕ) → Line → Bool
flat_mask2 B l = flat_at B l 4 && flat_at B l 5 && flat_at B l 6 && flat_at B l 7

-- ---- 8.8.5 narrow filter process
unfoldable pub c : (B : ℕ) → ℤ → ℤ
c B v = clip3 (neg_ℤ (pos (1 << (B - 1)))) (pos ((1 << (B - 1)) - 1)) v

abbrev pub off : (B : ℕ) → ℤ
off B = pos (128 << (B - 8))

unfoldable pub sample : (B : ℕ) → ℤ → ℕ  -- c( v ) + off, which is not negative
sample B v = nat_abs (c B v +ℤ off B)

abbrev pub first_two : (a b : ℕ) (side : ℕ → ℕ) → (k : ℕ) → ℕ  -- a side whose first two taps are a and b
first_two a b side zero = a
first_two a b side (suc zero) = b
first_two a b side (suc (suc k)) = side (suc (suc k))

-- steps 1 to 8; the standard's filter stands here once for each step that sets it
unfoldable pub narrow_filter : (B : ℕ) (hev_mask : Bool) → Line → Line
narrow_filter B hev_mask l =
    let ps1 = pos (l.p 1) -ℤ off B in
    let ps0 = pos (l.p 0) -ℤ off B in
    let qs0 = pos (l.q 0) -ℤ off B in
    let qs1 = pos (l.q 1) -ℤ off B in
    let filter_at2 = cond hev_mask (c B (ps1 -ℤ qs1)) (pos 0) in
    let filter_at3 = c B (filter_at2 +ℤ pos 3 *ℤ (qs0 -ℤ ps0)) in
    let filter1 = asr_z (c B (filter_at3 +ℤ pos 4)) 3 in
    let filter2 = asr_z (c B (filter_at3 +ℤ pos 3)) 3 in
    let q0 = sample B (qs0 -ℤ filter1) in
    let p0 = sample B (ps0 +ℤ filter2) in
    let filter_at8 = round2_z filter1 1 in
    let q1 = cond hev_mask (l.q 1) (sample B (qs1 -ℤ filter_at8)) in
    let p1 = cond hev_mask (l.p 1) (sample B (ps1 +ℤ filter_at8)) in
    record { p = first_two p0 p1 l.p; q = first_two q0 q1 l.q }

-- ---- 8.8.5 wide filter process
abbrev pub f_at : Line → (i : ℤ) → ℕ
f_at l (pos k) = l.q k
f_at l (negsuc k) = l.p k

unfoldable pub sum_to : (n : ℕ) → Line → (i : ℤ) (m : ℕ) → ℕ  -- the first m terms of the sum over j = -n .. n
sum_to n l i zero = 0
sum_to n l i (suc m) =
    let j = pos m -ℤ pos n in
    sum_to n l i m + f_at l (clip3 (negsuc n) (pos n) (i +ℤ j)) * cond (eqb m n) 2 1

unfoldable pub smoothed : (n log2_size : ℕ) → Line → (i : ℤ) → ℕ  -- F'[ i ]
smoothed n log2_size l i = round2 (sum_to n l i (2 * n + 1)) log2_size

unfoldable pub wide_filter : (log2_size : ℕ) → Line → Line  -- i = -n .. n - 1; the taps beyond are kept
wide_filter log2_size l =
    let n : ℕ = cond (eqb log2_size 3) 3 7 in
    record {
      p = λ k. cond (ltb k n) (smoothed n log2_size l (negsuc k)) (l.p k);
      q = λ k. cond (ltb k n) (smoothed n log2_size l (pos k)) (l.q k);
    }

-- ---- 8.8.5 the choice
unfoldable pub sample_filtering : (B filter_size limit blimit thresh : ℕ) → Line → Line
sample_filtering B filter_size limit blimit thresh l =
    cond (not (filter_mask B limit blimit l)) l
    (cond (eqb filter_size 0 || not (flat_mask B l)) (narrow_filter B (hev_mask B thresh l) l)
    (cond (eqb filter_size 1 || not (flat_mask2 B l)) (wide_filter 3 l)
    (wide_filter 4 l)))

-- ---- 8.8.2 step 17: the line whose q0 is at (x, y), and the plane with such a line in it
unfoldable pub line_at : (pass x y : ℕ) → Plane → Line
line_at pass x y s =
    let dx = 1 - pass in
    let dy = pass in
    record { p = λ k. s (x - dx * (k + 1)) (y - dy * (k + 1)); q = λ k. s (x + dx * k) (y + dy * k) }

abbrev pub tap_at : Line → (v0 v : ℕ) → ℕ  -- the tap at coordinate v, where q0 is at v0
tap_at l v0 v = cond (ltb v v0) (l.p (v0 - 1 - v)) (l.q (v - v0))

unfoldable pub stored : (pass x y : ℕ) → Line → Plane → Plane
stored pass x y l s u v =
    cond (eqb pass 0) (cond (eqb v y) (tap_at l x u) (s u v)) (cond (eqb u x) (tap_at l y v) (s u v))

module _ (f : Frame) (table : (segment ref mode : ℕ) → ℕ) (plane pass row col : ℕ) where
  unfoldable pub filtered_at : (edge i : ℕ) → Plane → Plane
  filtered_at edge i s =
      let plane_x = x f plane pass row col edge i >> sub_x f plane in
      let plane_y = y f plane pass row col edge i >> sub_y f plane in
      let size = filter_size f plane pass row col edge i in
      let level = lvl f plane pass row col edge i table in
      let limit = limit_of level f.sharpness in
      let blimit = blimit_of level f.sharpness in
      let after = sample_filtering f.bit_depth size limit blimit (thresh_of level) (line_at pass plane_x plane_y s) in
      cond (apply_filter f plane pass row col edge i && ltb 0 level) (stored pass plane_x plane_y after s) s

  unfoldable pub superblock_pass : Plane → Plane
  superblock_pass = for_to (16 >> sub f plane pass) (λ edge. for_to (edge_len f plane pass) (λ i. filtered_at edge i))

-- ---- 8.8.1 the frame: superblocks in raster order, in each the planes, in each plane the passes
unfoldable pub loop_filter_frame : Header → Frame → ((plane : ℕ) → Plane) → (plane : ℕ) → Plane
loop_filter_frame h f =
    for_to ((f.mi_rows + 7) / 8) (λ sb_row. for_to ((f.mi_cols + 7) / 8) (λ sb_col. for_to 3 (λ plane. for_to 2 (λ pass.
    λ planes k. cond (eqb k plane) (superblock_pass f (lvl_lookup h) plane pass (sb_row * 8) (sb_col * 8) (planes k)) (planes k)))))
