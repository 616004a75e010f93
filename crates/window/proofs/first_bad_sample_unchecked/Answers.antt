use Rattle.std.proofs.Common.{◌*◌, sym, ◌∙◌, arith}
use Rattle.base.specs.First.{no_place}
use Rattle.window.specs.Window.{reaches}
use Rattle.window.specs.SampleLaws.{row_room, rows_none, rows_more, rows_found}
use Rattle.window.proofs.first_bad_sample_unchecked.Goals as goal

pub loop-row-init : goal.loop-row-init
loop-row-init c = sym (rows_none c.args.g c.args.bound c.args.samples.now)

pub overflow_add-result : goal.overflow_add-result
overflow_add-result c =
    let a = c.args in
    let room = row_room a.g _ c.loop-row.row c.requires c.loop-row-test.true in
    let inside = (rows_found a.g a.bound a.samples.now c.loop-row.row a.g.height c.loop-row-test.true c.loop-row.invariant (sym c.first_in_row.ensures ∙ c.in-Some.is)).0 in
    let wide = c.requires.right in
    omega arith

pub returns-in-Some : goal.returns-in-Some
returns-in-Some c =
    let a = c.args in
    (rows_found a.g a.bound a.samples.now c.loop-row.row a.g.height c.loop-row-test.true c.loop-row.invariant (sym c.first_in_row.ensures ∙ c.in-Some.is)).1

pub loop-row-preserved : goal.loop-row-preserved
loop-row-preserved c =
    let a = c.args in
    let none = no_place (reaches a.bound a.samples.now (c.loop-row.row * a.g.stride)) a.g.width (sym c.first_in_row.ensures ∙ c.in_default.is) in
    sym (rows_more a.g a.bound a.samples.now c.loop-row.row) ∙ (rw (c.loop-row.invariant, none))
