use Rattle.byte_rows.specs.TurnLaws.{turned_whole}
use Rattle.byte_rows.proofs.turn.turn.Goals as goal

pub returns : goal.returns
returns g c =
    turned_whole c.args.to g.row.N c.shuffle.ensures c.shuffle-2.ensures c.shuffle-3.ensures c.shuffle-4.ensures
