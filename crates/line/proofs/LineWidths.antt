-- A line that is lent as bytes and as u16 gives the same answer (`same_lent`).
-- Assumes nothing.
use Rattle.std.specs.Prelude.{◌≡◌, refl, List, ℕ, ◌≤◌, length}
use Rattle.std.proofs.Common.{◌∙◌}
use Rattle.base.specs.Width.{Byte, U16}
use Rattle.line.specs.Line.{line, lent_line}
use Rattle.line.specs.LineWidths.{lent_line_lem, same_line}

-- and over a lent list that has 16 of them
pub same_lent : (size limit blimit thresh : ℕ) (t : List ℕ) → 16 ≤ length t → lent_line Byte 8 size limit blimit thresh t ≡ line U16 8 size limit blimit thresh t
same_lent size limit blimit thresh t h = lent_line_lem Byte 8 size limit blimit thresh t refl h ∙ same_line size limit blimit thresh t
