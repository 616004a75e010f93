use Rattle.window.specs.Window.{reaches}
use Rattle.window.proofs.first_in_row.Given as goal

abbrev pub ghost-first_place : goal.ghost-first_place
ghost-first_place a = reaches a.test.0 a.test.1.now a.test.2
