-- Laws of the words that a loop stores for a list of records: where there is room for fewer, the rest of the records is left out, and no
-- pass would have read it (`pass_lent`).
-- Assumes nothing.
use Rattle.std.specs.Prelude.{◌≡◌, refl, Bool, true, false, List, [], ◌∷◌, ℕ, zero, suc, ◌+◌, ◌-◌, ◌<◌, min, ltb, length, get_or, take}
use Rattle.std.proofs.Common.{sym, ap, subst, ◌∙◌, zero-add, add-zero, add-suc, le_of_lt, add-sub_of_le, arith, ltb-true, ltb-false, length-append, get_or-take, take_all}
use Rattle.std.proofs.lemmas.List.{take-append-le}
use Rattle.base.specs.Filled.{filled, table, filled_same, take-filled}
use Rattle.cell_records.specs.CellRecord.{word_of, words_of, none}
use Rattle.cell_records.specs.declared.CellRecord.{CellRecord}
use Rattle.base.specs.Width.{U16}
use Rattle.pass.specs.PassFront.{pass_front}
use Rattle.plane_window.specs.PlaneWindow.{pass_over}
use Rattle.geometry.specs.declared.pass_numbers.PassNumbers.{PassNumbers}
use Rattle.window.specs.declared.WindowShape.{WindowShape}
use Rattle.record_pass.specs.RecordPass.{record_word, pass_records}

pub length-table : (f : ℕ → ℕ) (n : ℕ) → length (table f n) ≡ n
unfolding table
length-table f zero = refl
length-table f (suc n) = omega (arith, length-append (table f n) (f n ∷ []), length-table f n)

-- a table starts with a shorter one
pub take-table : (f : ℕ → ℕ) (m n : ℕ) → take m (table f (m + n)) ≡ table f m
unfolding table
take-table f m zero = rw (add-zero m) (take_all m (table f m) (omega (arith, length-table f m)))
take-table f m (suc n) =
    rw (add-suc m n) (take-append-le m (table f (m + n)) (f (m + n) ∷ []) (omega (arith, length-table f (m + n))) ∙ take-table f m n)

-- as many entries as there is room for
lent_table : (f : ℕ → ℕ) (m n : ℕ) (t : Bool) → ltb m n ≡ t → table f (min n m) ≡ take m (table f n)
lent_table f m n true h =
    let more : min n m ≡ m = omega (arith, ltb-true m n h) in
    rw more (subst (λ (k : ℕ). table f m ≡ take m (table f k)) (add-sub_of_le (le_of_lt (ltb-true m n h))) (sym (take-table f m (n - m))))
lent_table f m n false h =
    let all : min n m ≡ n = omega (arith, ltb-false m n h) in
    rw all (sym (take_all m (table f n) (omega (arith, ltb-false m n h, length-table f n))))

-- of the words of records
pub lent_stored : (records : List CellRecord) (lent : ℕ) (l : List ℕ) → lent ≡ min (length records) 65536 → length l ≡ 65536
    → take lent (filled (record_word (take lent records)) 0 lent l) ≡ take 65536 (words_of records)
unfolding words_of
lent_stored records lent l e h =
    ap (take lent) (filled_same (record_word (take lent records)) (record_word records) 0 lent l (λ k q. ap word_of (front k q)))
    ∙ take-filled (record_word records) lent l (omega (arith, e, h))
    ∙ ap (table (record_word records)) e
    ∙ lent_table (record_word records) 65536 (length records) (ltb 65536 (length records)) refl
  where
    front : (k : ℕ) → k < lent → get_or (take lent records) (0 + k) none ≡ get_or records (0 + k) none
    front k q = rw (zero-add k) (get_or-take lent records k none q)

-- and no pass reads a cell behind the first 65,536
pub pass_lent : (g : WindowShape) (p : PassNumbers) (records : List CellRecord) (lent : ℕ) (l samples : List ℕ) → lent ≡ min (length records) 65536 → length l ≡ 65536
    → pass_over g p (take lent (filled (record_word (take lent records)) 0 lent l)) samples ≡ pass_records g p records samples
pass_lent g p records lent l samples e h =
    ap (λ (words : List ℕ). pass_over g p words samples) (lent_stored records lent l e h)
    ∙ pass_front U16 g p.sharpness p.bit_depth p.sub_x p.sub_y p.mi_cols p.mi_rows p.mi_row p.mi_col p.plane p.pass (words_of records) samples
