use Rattle.std.proofs.Common.{◌≡◌, List, ℕ, ◌*◌, ◌+◌, ◌-◌, ◌/◌, ◌≤◌, ◌∙◌, ap, arith, length, subst, take, drop}
use Rattle.sheet_header.specs.SheetHeaderLaws.{header_small}
use Rattle.sheet.specs.Sheet.{cells_of, cells_runs, printed}
use Rattle.text.specs.Puts.{Puts}
use Rattle.word_bytes.specs.WordBytes.{words_at, words_of}
use Rattle.word_bytes.specs.WordBytesLaws.{stretch-length, words_of_stretch}
use Rattle.sheet.proofs.print_words.Goals as goal

-- the stretch of the cells, and its words
lent : (bytes : List ℕ) (n : ℕ) → n ≤ (length bytes - 8) / 4 → 8 ≤ length bytes → 8 + 4 * n ≤ length bytes
lent bytes n h k = omega (arith, h)

words : (bytes : List ℕ) (n : ℕ) → 8 + 4 * n ≤ length bytes → words_of (take (8 + 4 * n - 8) (drop 8 bytes)) ≡ words_at bytes 8 n
words bytes n h = let size : 8 + 4 * n - 8 ≡ 4 * n = omega arith in rw size (words_of_stretch bytes 8 n h)

count : (bytes : List ℕ) (n : ℕ) → 8 + 4 * n ≤ length bytes → length (take (8 + 4 * n - 8) (drop 8 bytes)) / 4 ≡ n
count bytes n h = let size : 8 + 4 * n - 8 ≡ 4 * n = omega arith in rw (size, stretch-length bytes 8 n h) (omega arith)

pub print_cells-requires : goal.print_cells-requires
print_cells-requires c =
    let bytes = c.args.sheet.now in
    let n = c.cell_count_unchecked-count in
    let room = lent bytes n.result (rw n.ensures c.requires.3) c.requires.5 in
    (c.requires.0, rw c.requires.1 (header_small bytes), c.requires.2, omega (arith, count bytes n.result room, n.ensures), c.requires.4)

pub returns : goal.returns
returns c =
    let bytes = c.args.sheet.now in
    let n = c.cell_count_unchecked-count in
    let room = lent bytes n.result (rw n.ensures c.requires.3) c.requires.5 in
    let cells : words_of (take (8 + 4 * n.result - 8) (drop 8 bytes)) ≡ cells_of bytes = words bytes n.result room ∙ ap (words_at bytes 8) (rw c.requires.1 at n.ensures) in
    subst (λ l. Puts (printed c.args.h (cells_runs c.args.h l)) c.args.text.now c.print_cells.new.text) cells c.print_cells.ensures
