-- Document 01's run sheet: the lines of its text, as ASCII codes.
-- Assumes nothing.
use Rattle.std.specs.Prelude.{List, [], ◌∷◌, ◌++◌, ℕ}
use Rattle.decided.specs.declared.EdgeRun.{EdgeRun}
use Rattle.text.specs.Text.{decimal}
use Rattle.sheet_header.specs.declared.SheetHeader.{SheetHeader}

abbrev pub space : ℕ
space = 32

abbrev pub newline : ℕ
newline = 10

-- "pass ", " plane ", " row ", " col "
abbrev pub pass_word : List ℕ
pass_word = 112 ∷ 97 ∷ 115 ∷ 115 ∷ 32 ∷ []

abbrev pub plane_word : List ℕ
plane_word = 32 ∷ 112 ∷ 108 ∷ 97 ∷ 110 ∷ 101 ∷ 32 ∷ []

abbrev pub row_word : List ℕ
row_word = 32 ∷ 114 ∷ 111 ∷ 119 ∷ 32 ∷ []

abbrev pub col_word : List ℕ
col_word = 32 ∷ 99 ∷ 111 ∷ 108 ∷ 32 ∷ []

-- "refused ", " place "
abbrev pub refused_word : List ℕ
refused_word = 114 ∷ 101 ∷ 102 ∷ 117 ∷ 115 ∷ 101 ∷ 100 ∷ 32 ∷ []

abbrev pub place_word : List ℕ
place_word = 32 ∷ 112 ∷ 108 ∷ 97 ∷ 99 ∷ 101 ∷ 32 ∷ []

-- a number and the code behind it; a word and the number behind it
abbrev pub ended_by : (n code : ℕ) → List ℕ
ended_by n code = decimal n ++ code ∷ []

abbrev pub named : (word : List ℕ) (n : ℕ) → List ℕ
named word n = word ++ decimal n

-- pass, plane, row base, column in 8-sample units
unfoldable pub first_line : SheetHeader → List ℕ
first_line h = named pass_word h.pass ++ named plane_word h.plane ++ named row_word h.row ++ named col_word h.col ++ newline ∷ []

-- edge, first i, positions, size, level
unfoldable pub run_line : EdgeRun → List ℕ
run_line a = ended_by a.edge space ++ ended_by a.first space ++ ended_by a.count space ++ ended_by a.size space ++ ended_by a.level newline

unfoldable pub run_lines : List EdgeRun → List ℕ
run_lines [] = []
run_lines (a ∷ l) = run_line a ++ run_lines l

unfoldable pub refusal_line : (number place : ℕ) → List ℕ
refusal_line number place = named refused_word number ++ named place_word place ++ newline ∷ []
