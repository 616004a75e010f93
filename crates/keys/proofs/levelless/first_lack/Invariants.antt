use Rattle.keys.specs.PlainKeys.{lack_at}
use Rattle.keys.proofs.levelless.first_lack.Given as goal

abbrev pub ghost-first_place : goal.ghost-first_place
ghost-first_place a = lack_at a.test.1.now.of a.test.0.now
