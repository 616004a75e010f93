-- Laws of cell records: one whose fields fit comes back from its word, one with a field that is too large gives a word that 11 refuses, and a
-- word comes back from its record.
-- Assumes nothing.
use Rattle.std.specs.Prelude.{◌≡◌, refl, Bool, true, false, ℕ, ◌+◌, ◌%◌, ◌^◌, ◌<◌, eqb, ltb}
use Rattle.std.proofs.Common.{ap, ◌∙◌, arith, ltb-false, le-ltb}
use Rattle.base.specs.Tests.{neither}
use Rattle.cells.specs.Cell.{bit, packed, cell_of, Fields}
use Rattle.bad_words.specs.BadWord.{bad_word}
use Rattle.cells.specs.CellLaws.{fields_back, cell_fields, word_back}
use Rattle.cell_records.specs.CellRecord.{too_large, cell_in, word_of, record_of}
use Rattle.cell_records.specs.declared.CellRecord.{CellRecord}

pub fits : (c : CellRecord) → too_large c ≡ false → Fields (cell_in c)
fits c e =
    let t9 = neither _ e in
    let t8 = neither _ t9.0 in
    let t7 = neither _ t8.0 in
    let t6 = neither _ t7.0 in
    let t5 = neither _ t6.0 in
    let t4 = neither _ t5.0 in
    let t3 = neither _ t4.0 in
    let t2 = neither _ t3.0 in
    record {
      width0 = below 3 _ t2.0;
      width1 = below 3 _ t2.1;
      height0 = below 3 _ t3.1;
      height1 = below 3 _ t4.1;
      tx = below 3 _ t5.1;
      uvtx = below 3 _ t6.1;
      level = below 63 _ t9.1;
    }
  where
    below : (k n : ℕ) → ltb k n ≡ false → n < k + 1
    below k n h = omega (arith, ltb-false k n h)

-- the fields of the word are the record's
pub record_back : (c : CellRecord) → too_large c ≡ false → cell_of (word_of c) ≡ cell_in c
unfolding word_of
record_back c e = rw e (fields_back (cell_in c) (fits c e))

-- a field that is too large is refused with 11
pub too_large_refused : (c : CellRecord) → too_large c ≡ true → bad_word (word_of c) ≡ true
unfolding word_of bad_word
too_large_refused c e = rw e refl

flag_fits : (b : Bool) → ltb 1 (bit b) ≡ false
flag_fits true = refl
flag_fits false = refl

flag_back : (b : Bool) → eqb (bit b) 1 ≡ b
flag_back true = refl
flag_back false = refl

-- a word of which no zero bit is set comes back from its record
pub word_record : (w : ℕ) → w < 2 ^ 32 → w % 2 ^ 12 ≡ 0 → word_of (record_of w) ≡ w
unfolding word_of
word_record w h z = rw small (ap packed back ∙ whole)
  where
    f : Fields (cell_of w)
    f = cell_fields w

    fit : (k n : ℕ) → n < k + 1 → ltb k n ≡ false
    fit k n l = le-ltb k n (omega (arith, l))

    small : too_large (record_of w) ≡ false
    small =
        rw (fit 3 (cell_of w).width0 f.width0, fit 3 (cell_of w).width1 f.width1, fit 3 (cell_of w).height0 f.height0, fit 3 (cell_of w).height1 f.height1, fit 3 (cell_of w).tx f.tx, fit 3 (cell_of w).uvtx f.uvtx, flag_fits (cell_of w).skipped, flag_fits (cell_of w).present, fit 63 (cell_of w).level f.level)
        refl

    back : cell_in (record_of w) ≡ cell_of w
    back = λ i. record {
      width0 = (cell_of w).width0;
      width1 = (cell_of w).width1;
      height0 = (cell_of w).height0;
      height1 = (cell_of w).height1;
      tx = (cell_of w).tx;
      uvtx = (cell_of w).uvtx;
      skipped = flag_back (cell_of w).skipped i;
      present = flag_back (cell_of w).present i;
      level = (cell_of w).level;
    }

    whole : packed (cell_of w) ≡ w
    whole = omega (arith, z, word_back w h)
