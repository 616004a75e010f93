-- Document 01's test 11 of a packed cell.
-- Assumes nothing.
use Rattle.std.specs.Prelude.{Bool, not, ◌&&◌, ◌||◌, List, ℕ, ◌%◌, ◌^◌, eqb, get_or}
use Rattle.cells.specs.Cell.{cell_of}

-- 11: a zero bit is set, or the level is not 0 while it is absent
unfoldable pub bad_word : ℕ → Bool
bad_word w = not (eqb (w % 2 ^ 12) 0) || not (cell_of w).present && not (eqb (cell_of w).level 0)

-- 11 at word k of a list
abbrev pub bad_cell : (words : List ℕ) (k : ℕ) → Bool
bad_cell words k = bad_word (get_or words k 0)
