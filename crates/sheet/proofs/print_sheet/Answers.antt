use Rattle.std.proofs.Common.{◌≡◌, ◌≤◌, ◌-◌, ◌/◌, length, Bool, sym, ap, subst, ◌∙◌, ℕ, List, [], false, Result}
use Rattle.base.specs.Depth.{supported}
use Rattle.base.specs.Fault.{afterwards}
use Rattle.base.specs.Outcome.{Outcome, accepted}
use Rattle.base.specs.declared.fault.Fault.{Fault}
use Rattle.faults.specs.Faults.{numbers_refused}
use Rattle.faults.specs.FaultsLaws.{numbers_passed, numbers_any}
use Rattle.sheet_header.specs.SheetHeader.{header_of, bad_header}
use Rattle.sheet_header.specs.SheetHeaderLaws.{header_narrow}
use Rattle.sheet_header.specs.declared.SheetHeader.{SheetHeader}
use Rattle.sheet.specs.Sheet.{cells_of, cells_runs, sheet_runs}
use Rattle.sheet.specs.SheetFits.{Tame, sheet_tame}
use Rattle.sheet.specs.SheetLaws.{sheet_rest, sheet_text}
use Rattle.sheet.proofs.print_sheet.Goals as goal

-- past the tests of the header its numbers decide
tested : {C : Type 0} (bytes : List ℕ) (h : SheetHeader) (known : Bool) (answer : Result C Fault) → h ≡ header_of bytes → 8 ≤ length bytes → bad_header h ≡ false → known ≡ supported h.depth
    → ((after : Outcome (List ℕ)) → numbers_refused h.sharpness known h.subx h.suby h.cols h.rows h.row h.col h.plane h.pass ((length bytes - 8) / 4) after ≡ afterwards answer after)
    → sheet_runs bytes ≡ afterwards answer (cells_runs h (cells_of bytes))
tested bytes h known answer e l good k f =
    sheet_rest bytes h e l good
    ∙ numbers_any h.sharpness (supported h.depth) h.subx h.suby h.cols h.rows h.row h.col h.plane h.pass _ answer (λ after. rw k at (f after)) (cells_runs h (cells_of bytes))

pub print_words-requires : goal.print_words-requires
print_words-requires c =
    let h = c.header_of_unchecked-h in
    let n = numbers_passed h.result.sharpness (supported h.result.depth) h.result.subx h.result.suby h.result.cols h.result.rows h.result.row h.result.col h.result.plane h.result.pass _ (accepted [])
    ((rw (c.is_supported-known.ensures, c.from.ensures) at (c.number_faults-tested.ensures (accepted []))) ∙ ap (λ r. afterwards r (accepted [])) c.in-Ok.is) in
    (c.requires, h.ensures, n.0.placed_at _ _, n.0.cells_lent_lem, header_narrow h.result (sym c.bad_header.ensures ∙ c.if-bad_header.false), c.if-sheet-lt8.false)

-- so do they of a sheet whose answer is known
answered : {C : Type 0} (bytes : List ℕ) (h : SheetHeader) (known : Bool) (answer is : Result C Fault) → answer ≡ is → h ≡ header_of bytes → 8 ≤ length bytes → bad_header h ≡ false → known ≡ supported h.depth
    → ((after : Outcome (List ℕ)) → numbers_refused h.sharpness known h.subx h.suby h.cols h.rows h.row h.col h.plane h.pass ((length bytes - 8) / 4) after ≡ afterwards answer after)
    → sheet_runs bytes ≡ afterwards is (cells_runs h (cells_of bytes))
answered bytes h known answer is same e l good k f = tested bytes h known answer e l good k f ∙ ap (λ r. afterwards r (cells_runs h (cells_of bytes))) same

pub returns-in-Ok : goal.returns-in-Ok
returns-in-Ok c =
    let bytes = c.args.sheet.now in
    let h = c.header_of_unchecked-h in
    let runs = answered bytes h.result _ _ _ c.in-Ok.is h.ensures c.if-sheet-lt8.false (sym c.bad_header.ensures ∙ c.if-bad_header.false) c.is_supported-known.ensures (rw c.from.ensures at c.number_faults-tested.ensures) in
    rw (sheet_text bytes h.result h.ensures (cells_runs h.result (cells_of bytes)) runs) c.print_words.ensures

pub print_fault-requires-in-Err : goal.print_fault-requires-in-Err
print_fault-requires-in-Err c =
    let bytes = c.args.sheet.now in
    let h = c.header_of_unchecked-h in
    let runs = answered bytes h.result _ _ _ c.in-Err.is h.ensures c.if-sheet-lt8.false (sym c.bad_header.ensures ∙ c.if-bad_header.false) c.is_supported-known.ensures (rw c.from.ensures at c.number_faults-tested.ensures) in
    (c.requires, (subst Tame runs (sheet_tame bytes)).1)

pub returns-in-Err : goal.returns-in-Err
returns-in-Err c =
    let bytes = c.args.sheet.now in
    let h = c.header_of_unchecked-h in
    let runs = answered bytes h.result _ _ _ c.in-Err.is h.ensures c.if-sheet-lt8.false (sym c.bad_header.ensures ∙ c.if-bad_header.false) c.is_supported-known.ensures (rw c.from.ensures at c.number_faults-tested.ensures) in
    rw (sheet_text bytes h.result h.ensures _ runs) c.print_fault-in-Err.ensures
