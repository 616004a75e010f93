use Rattle.std.proofs.Common.{rules, List, ℕ, take, ◌≡◌, ◌∙◌, sym, subst, arith, length-take-le}
use Rattle.std.specs.Prelude.{OnOk}
use Rattle.std.specs.Io.KnownBytes.{Appends}
use Rattle.sheet.specs.Sheet.{run_sheet}
use Rattle.sheet.specs.SheetFits.{answer_fits}
use Rattle.run_sheet.proofs.Written.{written, count_of, front_of}
use Rattle.run_sheet.proofs.print_sheet.Goals as goal

pub returns-in_default : goal.returns-in_default
returns-in_default g c = absurd (c.in_default.not-Some _ (c.run_sheet.ensures.0 ∙ written _ _ (omega arith)))

pub slice_bounds-text-end : goal.slice_bounds-text-end
slice_bounds-text-end g c = omega (arith, answer_fits _ _ _ (sym c.in-Some.is ∙ c.run_sheet.ensures.0))

pub slice_bounds-write_all-end : goal.slice_bounds-write_all-end
slice_bounds-write_all-end g c =
    sym (length-take-le _ _ (omega (arith, answer_fits _ _ _ (sym c.in-Some.is ∙ c.run_sheet.ensures.0))))

pub returns : goal.returns
returns g c =
    let count = count_of _ _ _ (omega arith) (sym c.in-Some.is ∙ c.run_sheet.ensures.0) in
    let same : take c.in-Some.count c.run_sheet.new.out ≡ run_sheet c.args.sheet.now =
    rw (count, c.run_sheet.ensures.1) (front_of _ _ (omega arith)) in
    let appends = λ (bytes : List ℕ). OnOk c.write_all.result (Appends (g.W.Write.contents c.args.out.now) (g.W.Write.contents c.write_all.new.self) bytes) in
    let bytes = subst appends same c.write_all.ensures.bytes in
    search rules
