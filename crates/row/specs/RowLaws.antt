-- Laws of the row: what its tests leave, and its cases.
-- Assumes nothing.
use Rattle.std.specs.Prelude.{◌≡◌, Bool, true, false, not, ◌||◌, List, ℕ, ◌≤◌, ◌<◌, eqb, ltb, ℤ, length, get_or}
use Rattle.std.proofs.Common.{arith, lt-ltb, le-ltb, ltb-false}
use Rattle.base.specs.Depth.{supported}
use Rattle.base.specs.Filled.{filled}
use Rattle.base.specs.First.{first, found, found-false, first_small}
use Rattle.base.specs.Outcome.{Outcome, accepted, refused, returned}
use Rattle.base.specs.OutcomeLaws.{refuse-place}
use Rattle.base.specs.Tests.{neither}
use Rattle.blocks.specs.BlockSizesLaws.{width_small, height_small}
use Rattle.blocks.specs.ModeInfo.{sb_size}
use Rattle.blocks.specs.ModeInfoLaws.{sb_size_small}
use Rattle.geometry.specs.Frame.{bad_subsampling, bad_frame_size, bad_start, cells_from}
use Rattle.geometry.specs.FrameLaws.{sized, cells_small}
use Rattle.level_lookup.specs.LevelLookupLaws.{lookup_small}
use Rattle.strength.specs.Strength.{mode_type}
use Rattle.cells.specs.Cell.{Fields}
use Rattle.row.specs.Row.{cell_from, ModeInfo, word_at, bad_level, lists_short, too_short, bad_at, row}

-- ---- what the tests leave

pub levels_small : (levels : List ℕ) → found (bad_level levels) 64 ≡ false → (k : ℕ) → k < 64 → get_or levels k 0 ≤ 63
levels_small levels e k h = ltb-false 63 (get_or levels k 0) (found-false (bad_level levels) 64 e k h)

-- the cell of a block that is not bad fits its word
pub cell_fits : (levels : List ℕ) (mi_size tx_size uv_tx skip : ℕ) (ref_frame : ℤ) (y_mode segment : ℕ) → mi_size ≤ 12 → tx_size ≤ 3 → uv_tx ≤ 3 → found (bad_level levels) 64 ≡ false → Fields (cell_from levels mi_size tx_size uv_tx skip ref_frame y_mode segment)
unfolding cell_from
cell_fits levels mi_size tx_size uv_tx skip ref_frame y_mode segment s t u e =
    record {
      width0 = omega (arith, width_small (sb_size false mi_size) (sb_size_small false mi_size s));
      width1 = omega (arith, width_small (sb_size true mi_size) (sb_size_small true mi_size s));
      height0 = omega (arith, height_small (sb_size false mi_size) (sb_size_small false mi_size s));
      height1 = omega (arith, height_small (sb_size true mi_size) (sb_size_small true mi_size s));
      tx = omega arith;
      uvtx = omega arith;
      level = omega (arith, lookup_small levels segment ref_frame (mode_type y_mode) 63 (levels_small levels e));
    }

-- no list is too short
pub record Long (m : ModeInfo) (words : List ℕ) (n : ℕ) : Type 0 where
  pub sizes : n ≤ length m.sizes
  pub txs : n ≤ length m.txs
  pub skips : n ≤ length m.skips
  pub refs : n ≤ length m.refs
  pub modes : n ≤ length m.modes
  pub segments : n ≤ length m.segments
  pub cells : n ≤ length words

pub long : (m : ModeInfo) (words : List ℕ) (n : ℕ) → too_short m words n ≡ false → Long m words n
unfolding too_short lists_short
long m words n e =
    let short : List ℕ → Bool = λ l. ltb (length l) n in
    let refs : Bool = ltb (length m.refs) n in
    let s6 = neither (short m.sizes || short m.txs || short m.skips || refs || short m.modes || short m.segments) e in
    let s5 = neither (short m.sizes || short m.txs || short m.skips || refs || short m.modes) s6.0 in
    let s4 = neither (short m.sizes || short m.txs || short m.skips || refs) s5.0 in
    let s3 = neither (short m.sizes || short m.txs || short m.skips) s4.0 in
    let s2 = neither (short m.sizes || short m.txs) s3.0 in
    let s1 = neither (short m.sizes) s2.0 in
    record {
      sizes = ltb-false _ n s1.0;
      txs = ltb-false _ n s1.1;
      skips = ltb-false _ n s2.1;
      refs = ltb-false _ n s3.1;
      modes = ltb-false _ n s4.1;
      segments = ltb-false _ n s5.1;
      cells = ltb-false _ n s6.1;
    }

-- each list has an entry k
pub record Holds (m : ModeInfo) (k : ℕ) : Type 0 where
  pub sizes : k < length m.sizes
  pub txs : k < length m.txs
  pub skips : k < length m.skips
  pub refs : k < length m.refs
  pub modes : k < length m.modes
  pub segments : k < length m.segments

pub holds : (m : ModeInfo) (words : List ℕ) (n k : ℕ) → Long m words n → k < n → Holds m k
holds m words n k l h =
    let sizes = l.sizes in
    let txs = l.txs in
    let skips = l.skips in
    let refs = l.refs in
    let modes = l.modes in
    let segments = l.segments in
    record { sizes = omega arith; txs = omega arith; skips = omega arith; refs = omega arith; modes = omega arith; segments = omega arith }

-- ---- the cases of the row, in the order of its tests

module _ (m : ModeInfo) (levels : List ℕ) (sharpness depth sub_x sub_y mi_cols mi_rows base : ℕ) (cells : List ℕ) where
  abbrev answer : Outcome (List ℕ)
  answer = row m levels sharpness depth sub_x sub_y mi_cols mi_rows base cells

  abbrev n : ℕ
  n = cells_from base mi_cols mi_rows

  pub row_sharpness : 7 < sharpness → answer ≡ refused 1 0
  unfolding row
  row_sharpness t = rw (lt-ltb 7 sharpness t)

  module _ (t1 : sharpness ≤ 7) where
    pub row_depth : supported depth ≡ false → answer ≡ refused 2 0
    unfolding row
    row_depth t = rw (le-ltb 7 sharpness t1, t)

    module _ (t2 : supported depth ≡ true) where
      pub row_subsampling : bad_subsampling sub_x sub_y ≡ true → answer ≡ refused 3 0
      unfolding row
      row_subsampling t = rw (le-ltb 7 sharpness t1, t2, t)

      module _ (t3 : bad_subsampling sub_x sub_y ≡ false) where
        pub row_frame_size : bad_frame_size mi_cols mi_rows ≡ true → answer ≡ refused 4 0
        unfolding row
        row_frame_size t = rw (le-ltb 7 sharpness t1, t2, t3, t)

        module _ (t4 : bad_frame_size mi_cols mi_rows ≡ false) where
          pub row_base : bad_start base mi_rows ≡ true → answer ≡ refused 5 0
          unfolding row
          row_base t = rw (le-ltb 7 sharpness t1, t2, t3, t4, t)

          module _ (t5 : bad_start base mi_rows ≡ false) where
            pub row_level : found (bad_level levels) 64 ≡ true → answer ≡ refused 6 (first (bad_level levels) 64)
            unfolding row
            row_level t = rw (le-ltb 7 sharpness t1, t2, t3, t4, t5, t)

            module _ (t6 : found (bad_level levels) 64 ≡ false) where
              pub row_short : too_short m cells n ≡ true → answer ≡ refused 7 0
              unfolding row
              row_short t = rw (le-ltb 7 sharpness t1, t2, t3, t4, t5, t6, t)

              module _ (t7 : too_short m cells n ≡ false) where
                pub row_block : found (bad_at m) n ≡ true → answer ≡ refused 8 (first (bad_at m) n)
                unfolding row
                row_block t = rw (le-ltb 7 sharpness t1, t2, t3, t4, t5, t6, t7, t)

                pub row_filled : found (bad_at m) n ≡ false → answer ≡ accepted (filled (word_at m levels (eqb sub_x 1) (eqb sub_y 1)) 0 n cells)
                unfolding row
                row_filled t = rw (le-ltb 7 sharpness t1, t2, t3, t4, t5, t6, t7, t)

  -- a place is an entry of the level table, a cell of the row, or 0
  pub row_place : (returned answer).place ≤ 65536
  unfolding row
  row_place =
      refuse-place 65536 (ltb 7 sharpness) 1 0 _ (λ e. omega arith) (λ t1.
      refuse-place 65536 (not (supported depth)) 2 0 _ (λ e. omega arith) (λ t2.
      refuse-place 65536 (bad_subsampling sub_x sub_y) 3 0 _ (λ e. omega arith) (λ t3.
      refuse-place 65536 (bad_frame_size mi_cols mi_rows) 4 0 _ (λ e. omega arith) (λ t4.
      refuse-place 65536 (bad_start base mi_rows) 5 0 _ (λ e. omega arith) (λ t5.
      refuse-place 65536 (found (bad_level levels) 64) 6 (first (bad_level levels) 64) _ (λ e. omega (arith, first_small (bad_level levels) 0 64)) (λ t6.
      refuse-place 65536 (too_short m cells n) 7 0 _ (λ e. omega arith) (λ t7.
      refuse-place 65536 (found (bad_at m) n) 8 (first (bad_at m) n) _
      (λ e. omega (arith, first_small (bad_at m) 0 n, cells_small base mi_cols mi_rows (sized mi_cols mi_rows t4).cols))
      (λ t8. omega arith))))))))
