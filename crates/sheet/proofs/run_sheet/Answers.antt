use Rattle.std.proofs.Common.{rules, lt-ltb, refl, ap, arith, length, Some}
use Rattle.sheet.specs.Sheet.{run_sheet}
use Rattle.sheet.specs.SheetAnswers.{answer_of, text_of}
use Rattle.sheet.specs.SheetFits.{sheet_fits}
use Rattle.text.specs.PutsLaws.{puts_front}
use Rattle.sheet.proofs.run_sheet.Goals as goal

pub returns-then-out-gt2047 : goal.returns-then-out-gt2047
unfolding answer_of text_of
returns-then-out-gt2047 c =
    let a = c.args in
    let room = c.if-out-gt2047.true in
    let same = c.print_sheet.ensures.same in
    let text = puts_front (run_sheet a.sheet.now) c.print_sheet.ensures refl (omega (arith, room, sheet_fits a.sheet.now)) in
    rw (lt-ltb 2047 (length a.out.now) room) (ap Some text.1, search rules)
