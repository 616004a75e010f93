-- Laws of a sheet's lines: how long they are.
-- Assumes nothing.
use Rattle.std.specs.Prelude.{refl, ℕ, ◌*◌, ◌≤◌, ◌<◌, length}
use mathlib.Core.List.{Memᴰ}
use Rattle.std.proofs.Common.{arith, length-append, List, [], ◌∷◌}
use Rattle.decided.specs.RunsLaws.{Small}
use Rattle.decided.specs.declared.EdgeRun.{EdgeRun}
use Rattle.text.specs.Text.{decimal}
use Rattle.text.specs.TextLaws.{decimal-length}
use Rattle.sheet_header.specs.SheetHeaderLaws.{Header}
use Rattle.sheet_lines.specs.SheetLines.{first_line, run_line, run_lines, refusal_line}
use Rattle.sheet_header.specs.declared.SheetHeader.{SheetHeader}

one_digit : (n : ℕ) → n < 10 → length (decimal n) ≤ 1
one_digit n h = decimal-length 0 n h

two_digits : (n : ℕ) → n < 100 → length (decimal n) ≤ 2
two_digits n h = decimal-length 1 n h

four_digits : (n : ℕ) → n < 10000 → length (decimal n) ≤ 4
four_digits n h = decimal-length 3 n h

pub first_length : (h : SheetHeader) → Header h → length (first_line h) ≤ 33
unfolding first_line
first_length h k =
    let pass = one_digit h.pass (omega arith) in
    let plane = one_digit h.plane (omega arith) in
    let row = four_digits h.row (omega arith) in
    let col = four_digits h.col (omega arith) in
    simp length-append (omega arith)

run_length : (a : EdgeRun) → Small a → length (run_line a) ≤ 14
unfolding run_line
run_length a k =
    let edge = two_digits a.edge (omega arith) in
    let first = two_digits a.first (omega arith) in
    let count = two_digits a.count (omega arith) in
    let size = one_digit a.size (omega arith) in
    let level = two_digits a.level (omega arith) in
    simp length-append (omega arith)

pub lines-length : (l : List EdgeRun) → ((a : EdgeRun) → Memᴰ a l → Small a) → length (run_lines l) ≤ 14 * length l
unfolding run_lines
lines-length [] h = omega arith
lines-length (a ∷ l) h =
    omega (arith, length-append (run_line a) (run_lines l), run_length a (h a (Memᴰ.head refl)), lines-length l (λ b m. h b (Memᴰ.tail m)))

pub refusal_length : (number place : ℕ) → number < 100 → place < 10000 → length (refusal_line number place) ≤ 22
unfolding refusal_line
refusal_length number place h k =
    let digits = two_digits number h in
    let more = four_digits place k in
    simp length-append (omega arith)
