use Rattle.byte_rows.specs.TurnLaws.{turned_again}
use Rattle.byte_rows.proofs.turn.turn_middle_back.Goals as goal

pub returns : goal.returns
returns c =
    let two = turned_again 0 64 2 32 c.shuffle.ensures c.shuffle-2.ensures in
    turned_again 0 64 4 16 two c.shuffle-3.ensures
