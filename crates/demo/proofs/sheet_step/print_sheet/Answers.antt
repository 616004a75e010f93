use Rattle.std.proofs.Common.{◌∙◌, sym, arith, length-take-le}
use Rattle.sheet.specs.SheetFits.{answer_fits}
use Rattle.demo.proofs.sheet_step.print_sheet.Goals as goal

pub slice_bounds-text-end : goal.slice_bounds-text-end
slice_bounds-text-end g c = omega (arith, answer_fits _ _ _ (sym c.in-Some.is ∙ c.run_sheet.ensures.0))

pub slice_bounds-write_all-end : goal.slice_bounds-write_all-end
slice_bounds-write_all-end g c =
    sym (length-take-le _ _ (omega (arith, answer_fits _ _ _ (sym c.in-Some.is ∙ c.run_sheet.ensures.0))))
