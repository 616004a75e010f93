use Rattle.row.specs.Row.{bad_level}
use Rattle.row.proofs.first_bad_level.Given as goal

abbrev pub ghost-first_place : goal.ghost-first_place
ghost-first_place a = bad_level a.test.0.now
