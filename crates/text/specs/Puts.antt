-- What a text's functions write.
-- Assumes nothing.
use Rattle.std.specs.Prelude.{◌≡◌, List, ℕ}
use Rattle.text.specs.Text.{Put}
use Rattle.text.specs.declared.Text.{Text}

-- bytes were written behind a text, into the same buffer
pub record Puts (bytes : List ℕ) (before after : Text) : Type 0 where
  pub same : after.out.ghost_name ≡ before.out.ghost_name
  pub put : Put before.at bytes before.out.now after.out.now after.at
