-- Laws of a pass's refusals: what its tests leave, and the answers that the code gives.
-- Assumes nothing.
use Rattle.std.specs.Prelude.{◌≡◌, refl, Bool, true, false, not, ◌||◌, List, [], ℕ, ◌*◌, ◌^◌, ◌≤◌, ltb, length, Result, Ok, Err}
use Rattle.std.proofs.Common.{sym, ap, ◌∙◌, ltb-false}
use Rattle.std.proofs.lemmas.Bool.{not-false}
use Rattle.base.specs.Fault.{afterwards}
use Rattle.base.specs.First.{found, refuse_first}
use Rattle.base.specs.Outcome.{Outcome, accepted, refused, refuse}
use Rattle.base.specs.OutcomeLaws.{passed}
use Rattle.base.specs.Tests.{neither}
use Rattle.base.specs.declared.fault.Fault.{Fault}
use Rattle.bad_words.specs.BadWord.{bad_cell}
use Rattle.decided.specs.Decided.{Setting}
use Rattle.decisions.specs.Decision.{levelless}
use Rattle.geometry.specs.Frame.{bad_subsampling, bad_frame_size, bad_start, cells_from}
use Rattle.geometry.specs.FrameLaws.{flags}
use Rattle.geometry.specs.declared.Pass.{Pass}
use Rattle.geometry.specs.declared.Superblock.{Superblock}
use Rattle.positions.specs.Positions.{Placed}
use Rattle.pass_edges.specs.PassEdges.{edge_count}
use Rattle.positions.specs.PositionsLaws.{placed}
use Rattle.window.specs.Window.{bad_window, bad_sample}
use Rattle.window.specs.WindowLaws.{Lent, lent}
use Rattle.window.specs.declared.WindowShape.{WindowShape}
use Rattle.faults.specs.Faults.{numbers_refused, lists_refused}

-- ---- what the tests of the numbers leave

pub record Numbers (sharpness : ℕ) (known : Bool) (sub_x sub_y mi_cols mi_rows row col plane pass cells_lent : ℕ) : Type 0 where
  pub sharpness_fits : sharpness ≤ 7
  pub depth_known : known ≡ true
  pub flags : (sub_x ≤ 1) × (sub_y ≤ 1)
  pub plane_known : plane ≤ 2
  pub pass_known : pass ≤ 1
  pub placed_at : (subx suby : Bool) → Placed (record { subx = subx; suby = suby; cols = mi_cols; rows = mi_rows; row = row; col = col })
  pub cells_lent_lem : cells_from row mi_cols mi_rows ≤ cells_lent

pub numbers_passed : {A : Type 0} (sharpness : ℕ) (known : Bool) (sub_x sub_y mi_cols mi_rows row col plane pass cells_lent : ℕ) (after : Outcome A) {result : A}
    → numbers_refused sharpness known sub_x sub_y mi_cols mi_rows row col plane pass cells_lent after ≡ accepted result
    → Numbers sharpness known sub_x sub_y mi_cols mi_rows row col plane pass cells_lent × (after ≡ accepted result)
numbers_passed sharpness known sub_x sub_y mi_cols mi_rows row col plane pass cells_lent after e =
    let t1 = passed (ltb 7 sharpness) 1 0 _ e in
    let t2 = passed (not known) 2 0 _ t1.1 in
    let t3 = passed (bad_subsampling sub_x sub_y) 3 0 _ t2.1 in
    let t4 = passed (bad_frame_size mi_cols mi_rows) 4 0 _ t3.1 in
    let t5 = passed (bad_start row mi_rows) 5 0 _ t4.1 in
    let t7 = passed (ltb cells_lent (cells_from row mi_cols mi_rows)) 7 0 _ t5.1 in
    let t9 = passed (ltb 2 plane || ltb 1 pass) 9 0 _ t7.1 in
    let named = neither (ltb 2 plane) t9.0 in
    let t10 = passed (bad_start col mi_cols) 10 0 _ t9.1 in (
      record {
        sharpness_fits = ltb-false 7 sharpness t1.0;
        depth_known = not-false known t2.0;
        flags = flags sub_x sub_y t3.0;
        plane_known = ltb-false 2 plane named.0;
        pass_known = ltb-false 1 pass named.1;
        placed_at = λ subx suby. placed (record { subx = subx; suby = suby; cols = mi_cols; rows = mi_rows; row = row; col = col }) t4.0 t5.0 t10.0;
        cells_lent_lem = ltb-false cells_lent (cells_from row mi_cols mi_rows) t7.0;
      },
      t10.1,
    )

-- ---- what the tests of the lists leave

pub record Lists (g : WindowShape) (t : Setting) (pass : Pass) (samples : List ℕ) : Type 0 where
  pub cells_good : found (bad_cell t.cells) (cells_from t.superblock.row t.superblock.cols t.superblock.rows) ≡ false
  pub window_lent : Lent g (length samples)
  pub samples_good : found (bad_sample g (2 ^ t.depth) samples) (g.height * g.width) ≡ false
  pub levels_present : found (levelless t.superblock pass t.chroma t.cells) (64 * edge_count t.superblock pass) ≡ false

-- refusals 11 to 13, which the code tests before it decides anything
abbrev pub lent_refused : {A : Type 0} → WindowShape → Superblock → (depth : ℕ) (cells samples : List ℕ) → Outcome A → Outcome A
lent_refused g s depth cells samples after =
    refuse_first (bad_cell cells) (cells_from s.row s.cols s.rows) 11
    (refuse (bad_window g (length samples)) 12 0
    (refuse_first (bad_sample g (2 ^ depth) samples) (g.height * g.width) 13
    after))

pub lent_passed : {A : Type 0} (g : WindowShape) (s : Superblock) (depth : ℕ) (cells samples : List ℕ) (after : Outcome A) {result : A} → lent_refused g s depth cells samples after ≡ accepted result
    → (found (bad_cell cells) (cells_from s.row s.cols s.rows) ≡ false) × Lent g (length samples) × (found (bad_sample g (2 ^ depth) samples) (g.height * g.width) ≡ false) × (after ≡ accepted result)
lent_passed g s depth cells samples after e =
    let t11 = passed (found (bad_cell cells) (cells_from s.row s.cols s.rows)) 11 _ _ e in
    let t12 = passed (bad_window g (length samples)) 12 0 _ t11.1 in
    let t13 = passed (found (bad_sample g (2 ^ depth) samples) (g.height * g.width)) 13 _ _ t12.1 in
    (t11.0, lent g (length samples) t12.0, t13.0, t13.1)

pub lists-passed : {A : Type 0} (g : WindowShape) (t : Setting) (pass : Pass) (samples : List ℕ) (after : Outcome A) {result : A}
    → lists_refused g t pass samples after ≡ accepted result → Lists g t pass samples × (after ≡ accepted result)
lists-passed g t pass samples after e =
    let l = lent_passed g t.superblock t.depth t.cells samples _ e in
    let t14 = passed (found (levelless t.superblock pass t.chroma t.cells) (64 * edge_count t.superblock pass)) 14 _ _ l.3 in
    (record { cells_good = l.0; window_lent = l.1; samples_good = l.2; levels_present = t14.0 }, t14.1)

-- ---- the tests as the code makes them

-- the tests of the numbers come to the same whatever follows them
abbrev and_then : {A B : Type 0} → Outcome A → Outcome B → Outcome B
and_then (accepted a) after = after
and_then (refused number place) after = refused number place

refuse_then : {A B : Type 0} (test : Bool) (number place : ℕ) (o : Outcome A) (after : Outcome B) → and_then (refuse test number place o) after ≡ refuse test number place (and_then o after)
refuse_then true number place o after = refl
refuse_then false number place o after = refl

afterwards_then : {A B C : Type 0} (answer : Result C Fault) (a : A) (after : Outcome B) → and_then (afterwards answer (accepted a)) after ≡ afterwards answer after
afterwards_then (Ok c) a after = refl
afterwards_then (Err e) a after = refl

pub numbers_any : {B C : Type 0} (sharpness : ℕ) (known : Bool) (sub_x sub_y mi_cols mi_rows row col plane pass cells_lent : ℕ) (answer : Result C Fault)
    → ((after : Outcome (List ℕ)) → numbers_refused sharpness known sub_x sub_y mi_cols mi_rows row col plane pass cells_lent after ≡ afterwards answer after)
    → (after : Outcome B) → numbers_refused sharpness known sub_x sub_y mi_cols mi_rows row col plane pass cells_lent after ≡ afterwards answer after
numbers_any sharpness known sub_x sub_y mi_cols mi_rows row col plane pass cells_lent answer h after =
    sym then ∙ ap (λ (o : Outcome (List ℕ)). and_then o after) (h none) ∙ afterwards_then answer [] after
  where
    none : Outcome (List ℕ)
    none = accepted []

    then : and_then (numbers_refused sharpness known sub_x sub_y mi_cols mi_rows row col plane pass cells_lent none) after
        ≡ numbers_refused sharpness known sub_x sub_y mi_cols mi_rows row col plane pass cells_lent after
    then = simp refuse_then
