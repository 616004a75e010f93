-- What the run sheet's operation comes to: the text at the front of the lent buffer, or nothing where there is no room.
-- Assumes nothing.
use Rattle.std.specs.Prelude.{Bool, cond, List, ◌++◌, ℕ, ltb, length, drop, Option, Some, None}
use Rattle.sheet.specs.Sheet.{run_sheet}

-- 2,048 bytes are always enough (`sheet_fits`); a buffer of fewer is left as it is
abbrev pub enough : (out : List ℕ) → Bool
enough out = ltb 2047 (length out)

unfoldable pub answer_of : (bytes out : List ℕ) → Option ℕ
answer_of bytes out = cond (enough out) (Some (length (run_sheet bytes))) None

unfoldable pub text_of : (bytes out : List ℕ) → List ℕ
text_of bytes out = cond (enough out) (run_sheet bytes ++ drop (length (run_sheet bytes)) out) out
