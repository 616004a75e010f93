use Rattle.std.proofs.Common.{sym, ◌∙◌}
use Rattle.std.proofs.lemmas.List.{map-set}
use Rattle.window.specs.StencilLaws.{put_on}
use Rattle.border_position.proofs.write_tap.Goals as goal

pub returns-then-is_stored_unchecked : goal.returns-then-is_stored_unchecked
returns-then-is_stored_unchecked g c =
    rw (map-set, c.of_word.ensures)
    (put_on _ _ _ _ _ (sym c.is_stored_unchecked.ensures ∙ c.if-is_stored_unchecked.true) c.written_place_unchecked.ensures.0)
