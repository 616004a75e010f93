use Rattle.std.proofs.Common.{◌≡◌, refl, Bool, List, [], ℕ, length}
use Rattle.std.proofs.lemmas.Result.{err_from_is_err_and}
use Rattle.base.specs.Fault.{number_of, place_of}
use Rattle.base.specs.Outcome.{Outcome, accepted, refused}
use Rattle.base.specs.Width.{admits, admits-supported}
use Rattle.faults.specs.Faults.{numbers_refused}
use Rattle.faults.specs.FaultsLaws.{Numbers, numbers_passed}
use Rattle.geometry.specs.declared.pass_numbers.PassNumbers.{PassNumbers}
use Rattle.pass.proofs.Refusals.{answers_on}
use Rattle.pass.specs.Pass.{superblock_loop_filter_cells}
use Rattle.superblock_pass.proofs.superblock_loop_filter_cells.Goals as goal

-- the tests of the numbers, and what they leave
abbrev refused_by : PassNumbers → (known : Bool) (lent : ℕ) → Outcome (List ℕ) → Outcome (List ℕ)
refused_by n known lent = numbers_refused n.sharpness known n.sub_x n.sub_y n.mi_cols n.mi_rows n.mi_row n.mi_col n.plane n.pass lent

passed_by : (n : PassNumbers) (known : Bool) (lent : ℕ) → ((after : Outcome (List ℕ)) → refused_by n known lent after ≡ after)
    → Numbers n.sharpness known n.sub_x n.sub_y n.mi_cols n.mi_rows n.mi_row n.mi_col n.plane n.pass lent
passed_by n known lent e = (numbers_passed n.sharpness known n.sub_x n.sub_y n.mi_cols n.mi_rows n.mi_row n.mi_col n.plane n.pass lent _ (e (accepted []))).0

pub returns-in_err-number_faults : goal.returns-in_err-number_faults
unfolding superblock_loop_filter_cells
returns-in_err-number_faults g c =
    let a = c.args in
    let fault = c.in_err-number_faults.field-0.0 in
    let tested : (after : Outcome (List ℕ)) → refused_by a.n (admits g.S.LentSample.width a.n.bit_depth) (length (g.C.Words.words a.cells)) after ≡ refused (number_of fault) (place_of fault) = λ after. rw (c.admits.ensures, c.count.ensures) at (c.in_err-number_faults.ensures after) in
    let e = err_from_is_err_and c.from_residual.result c.from_residual.ensures.1 in
    rw (tested _, e.1, e.2) (refl, refl)

pub setting_of_unchecked-requires : goal.setting_of_unchecked-requires
setting_of_unchecked-requires g c =
    let n = passed_by c.args.n _ _ c.in_ok-number_faults.ensures in
    record { sharpness = n.sharpness_fits; depth = admits-supported _ _ (rw c.admits.ensures at n.depth_known); placed = n.placed_at _ _ }

pub test_lists_and_filter-requires : goal.test_lists_and_filter-requires
test_lists_and_filter-requires g c =
    let n = passed_by c.args.n _ _ c.in_ok-number_faults.ensures in
    let e = c.setting_of_unchecked.ensures in
    (rw (e.s, ← c.count.ensures) n.cells_lent_lem, rw e.depth (rw c.admits.ensures at n.depth_known))

pub returns : goal.returns
unfolding superblock_loop_filter_cells
returns g c =
    let a = c.args in
    let tested : (after : Outcome (List ℕ)) → refused_by a.n (admits g.S.LentSample.width a.n.bit_depth) (length (g.C.Words.words a.cells)) after ≡ after = λ after. rw (c.admits.ensures, c.count.ensures) at (c.in_ok-number_faults.ensures after) in
    let e = c.setting_of_unchecked.ensures in
    answers_on _ _ _ _ _ (tested _) (rw (e.s, e.pass, e.chroma, e.sharpness, e.depth) at c.test_lists_and_filter.ensures)
