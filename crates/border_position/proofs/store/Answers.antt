use Rattle.tap_places.specs.TurnLaws.{scatter_next}
use Rattle.border_position.proofs.store.Goals as goal

pub loop-k-preserved : goal.loop-k-preserved
loop-k-preserved g c = scatter_next _ _ _ c.loop-k.k _ _ _ c.write_tap.ensures c.loop-k.invariant
