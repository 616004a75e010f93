use Rattle.line.specs.Line.{reaches}
use Rattle.line.proofs.first_reaching.Given as goal

abbrev pub ghost-first_place : goal.ghost-first_place
ghost-first_place a = reaches a.test.0.now a.test.1.now
