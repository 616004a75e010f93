-- Laws of the row's records: what a row that was not refused has, and the row's answer said of the records.
-- Assumes nothing.
use Rattle.std.specs.Prelude.{◌≡◌, refl, Bool, true, false, not, List, ◌∷◌, ℕ, zero, suc, ◌≤◌, ◌<◌, eqb, ltb, length, take, replicate}
use Rattle.std.proofs.Common.{◌∙◌, ap, subst, le_of_suc-le-suc, not-suc-le-zero, arith, lit<, length-set, get_or-take, ltb-false}
use Rattle.std.proofs.lemmas.Bool.{not-false}
use Rattle.base.specs.Depth.{supported}
use Rattle.base.specs.Fault.{number_of, place_of}
use Rattle.base.specs.Filled.{filled}
use Rattle.base.specs.declared.fault.Fault.{Fault}
use Rattle.base.specs.declared.fault.Fault.TheVariants.{Sharpness, Depth, Subsampling, FrameSize, Row, Level, Short, Block, PlaneOrPass, Column, Cell, Window, Sample, NoLevel, FilterSize, Position, Header}
use Rattle.base.specs.First.{first, found}
use Rattle.base.specs.Outcome.{Outcome, accepted, refused, refuse, Returned, returned, held, Answers}
use Rattle.geometry.specs.Frame.{bad_subsampling, bad_frame_size, bad_start}
use Rattle.geometry.specs.FrameLaws.{sized, started}
use Rattle.cell_records.specs.declared.CellRecord.{CellRecord}
use Rattle.row.specs.Row.{ModeInfo, word_at, bad_level, too_short, bad_at, row}
use Rattle.row.specs.RowLaws.{long, row_filled}
use Rattle.record_row.specs.RecordRow.{stored, row_with, cells_in, as_records}
use Rattle.row.specs.declared.numbers.RowNumbers.{RowNumbers}

-- ---- stored records
-- no step changes how many there are
pub stored-len : (ws : List ℕ) (k : ℕ) (rs : List CellRecord) → length (stored ws k rs) ≡ length rs
unfolding stored
stored-len ws zero rs = refl
stored-len ws (suc k) rs = length-set (stored ws k rs) k _ ∙ stored-len ws k rs

pub stored_none : (ws : List ℕ) (rs : List CellRecord) → stored ws 0 rs ≡ rs
unfolding stored
stored_none ws rs = refl

-- they are those of a part that has all the words
pub stored_part : (j : ℕ) (ws : List ℕ) (k : ℕ) (rs : List CellRecord) → k ≤ j → stored ws k rs ≡ stored (take j ws) k rs
unfolding stored
stored_part j ws zero rs h = refl
stored_part j ws (suc k) rs h = rw (stored_part j ws k rs (omega arith), get_or-take j ws k 0 h)

pub take-replicate : (n m : ℕ) → n ≤ m → take {A = ℕ} n (replicate m 0) ≡ replicate n 0
take-replicate zero m h = refl
take-replicate (suc n) zero h = absurd (not-suc-le-zero h)
take-replicate (suc n) (suc m) h = ap (λ (l : List ℕ). 0 ∷ l) (take-replicate n m (le_of_suc-le-suc h))

-- ---- a row that was not refused
refuse_off : {A : Type 0} (test : Bool) (number place : ℕ) (after : Outcome A) → 0 < number → 0 ≡ (returned (refuse test number place after)).number → (test ≡ false) × (0 ≡ (returned after).number)
refuse_off true number place after h e = absurd (omega (arith, h, e))
refuse_off false number place after h e = (refl, e)

pub record Made (m : ModeInfo) (levels : List ℕ) (p : RowNumbers) (ws : List ℕ) : Type 0 where
  pub result : row_with m levels p ws ≡ accepted (filled (word_at m levels (eqb p.sub_x 1) (eqb p.sub_y 1)) 0 (cells_in p) ws)
  pub starts : p.mi_row ≤ p.mi_rows
  pub narrow : p.mi_cols ≤ 8192
  pub lent : cells_in p ≤ length ws

pub made : (m : ModeInfo) (levels : List ℕ) (p : RowNumbers) (ws : List ℕ) → 0 ≡ (returned (row_with m levels p ws)).number → Made m levels p ws
unfolding row
made m levels p ws e =
    let s1 = refuse_off (ltb 7 p.sharpness) 1 0 _ (lit< tt) e in
    let s2 = refuse_off (not (supported p.bit_depth)) 2 0 _ (lit< tt) s1.1 in
    let s3 = refuse_off (bad_subsampling p.sub_x p.sub_y) 3 0 _ (lit< tt) s2.1 in
    let s4 = refuse_off (bad_frame_size p.mi_cols p.mi_rows) 4 0 _ (lit< tt) s3.1 in
    let s5 = refuse_off (bad_start p.mi_row p.mi_rows) 5 0 _ (lit< tt) s4.1 in
    let s6 = refuse_off (found (bad_level levels) 64) 6 (first (bad_level levels) 64) _ (lit< tt) s5.1 in
    let s7 = refuse_off (too_short m ws (cells_in p)) 7 0 _ (lit< tt) s6.1 in
    let s8 = refuse_off (found (bad_at m) (cells_in p)) 8 (first (bad_at m) (cells_in p)) _ (lit< tt) s7.1 in
    let below = (started p.mi_row p.mi_rows s5.0).below in
    record {
      result = row_filled m levels p.sharpness p.bit_depth p.sub_x p.sub_y p.mi_cols p.mi_rows p.mi_row ws (ltb-false 7 p.sharpness s1.0) (not-false (supported p.bit_depth) s2.0) s3.0 s4.0 s5.0 s6.0 s7.0 s8.0;
      starts = omega (arith, below);
      narrow = (sized p.mi_cols p.mi_rows s4.0).cols;
      lent = (long m ws (cells_in p) s7.0).cells;
    }

-- ---- the answer, of the records
-- every fault has a number above 0
numbered : (e : Fault) → 0 < number_of e
numbered Sharpness = lit< tt
numbered Depth = lit< tt
numbered Subsampling = lit< tt
numbered FrameSize = lit< tt
numbered Row = lit< tt
numbered (Level k) = lit< tt
numbered Short = lit< tt
numbered (Block k) = lit< tt
numbered PlaneOrPass = lit< tt
numbered Column = lit< tt
numbered (Cell k) = lit< tt
numbered Window = lit< tt
numbered (Sample k) = lit< tt
numbered (NoLevel k) = lit< tt
numbered FilterSize = lit< tt
numbered Position = lit< tt
numbered Header = lit< tt

abbrev pub accepted_as : Returned
accepted_as = record { number = 0; place = 0 }

module _ (m : ModeInfo) (levels : List ℕ) (p : RowNumbers) (ws : List ℕ) where
  -- a refusal is passed on, and nothing is stored
  passed_on : (o : Outcome (List ℕ)) (n : ℕ) (rs : List CellRecord) (r : Returned) → 0 < r.number → r ≡ returned o → Answers (as_records o n rs) r rs rs
  passed_on (accepted l) n rs r h e = absurd (omega (arith, h, ap (λ (t : Returned). t.number) e))
  passed_on (refused number place) n rs r h e = (e, refl)

  in_part : (o : Outcome (List ℕ)) (l : List ℕ) (n j : ℕ) (rs : List CellRecord) (zs : List ℕ) → o ≡ accepted l → n ≤ j → take j zs ≡ held o ws → Answers (as_records o n rs) accepted_as rs (stored zs n rs)
  in_part (accepted k) l n j rs zs e h t = (refl, stored_part j zs n rs h ∙ ap (λ (s : List ℕ). stored s n rs) t)
  in_part (refused number place) l n j rs zs e h t = absurd cc

  pub kept : (e : Fault) (rs : List CellRecord) → record { number = number_of e; place = place_of e } ≡ returned (row_with m levels p ws)
      → Answers (as_records (row_with m levels p ws) (cells_in p) rs) (record { number = number_of e; place = place_of e }) rs rs
  kept e rs s = passed_on (row_with m levels p ws) (cells_in p) rs _ (numbered e) s

  pub passed_row : accepted_as ≡ returned (row_with m levels p ws) → Made m levels p ws
  passed_row e = made m levels p ws (ap (λ (t : Returned). t.number) e)

  pub replaced : (j : ℕ) (rs : List CellRecord) (zs : List ℕ) → length ws ≡ j → Answers (row_with m levels p ws) accepted_as ws (take j zs)
      → Answers (as_records (row_with m levels p ws) (cells_in p) rs) accepted_as rs (stored zs (cells_in p) rs)
  replaced j rs zs len s =
      let d = passed_row s.0 in
      in_part (row_with m levels p ws) _ (cells_in p) j rs zs d.result (subst (λ (k : ℕ). cells_in p ≤ k) len d.lent) s.1
