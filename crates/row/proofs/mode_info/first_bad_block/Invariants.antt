use Rattle.row.specs.Row.{bad_block_at}
use Rattle.row.proofs.mode_info.first_bad_block.Given as goal

abbrev pub ghost-first_place : goal.ghost-first_place
ghost-first_place a = bad_block_at a.test.0.now a.test.1.now a.test.2.now
