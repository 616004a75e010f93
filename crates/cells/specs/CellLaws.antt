-- Laws of the packed cell: its fields come back from the word, and the word from its fields.
-- Assumes nothing.
use Rattle.std.specs.Prelude.{◌≡◌, refl, Bool, true, false, ℕ, zero, suc, ◌+◌, ◌*◌, ◌/◌, ◌%◌, ◌^◌, ◌≤◌, ◌<◌, eqb}
use Rattle.std.proofs.Common.{ap, ◌∙◌, arith}
use Rattle.std.specs.Int.{from_bool}
use Rattle.cells.specs.Cell.{bit, packed, cell_of, Fields}
use Rattle.cells.specs.declared.LfCell.{LfCell}

-- a flag as a number is one bit
pub flag_bit : (b : Bool) → from_bool b ≡ bit b
flag_bit true = refl
flag_bit false = refl

pub bit_small : (b : Bool) → bit b ≤ 1
bit_small true = omega arith
bit_small false = omega arith

bit-back : (b : Bool) → eqb (bit b) 1 ≡ b
bit-back true = refl
bit-back false = refl

bit_of : (n : ℕ) → n ≤ 1 → bit (eqb n 1) ≡ n
bit_of zero h = refl
bit_of (suc zero) h = refl
bit_of (suc (suc n)) h = absurd (omega arith)

-- the fields of a packed cell are the cell's
pub fields_back : (c : LfCell) → Fields c → cell_of (packed c) ≡ c
unfolding packed cell_of
fields_back c f =
    let s = bit_small c.skipped in
    let p = bit_small c.present in
    let width0 : packed c / 2 ^ 30 % 4 ≡ c.width0 = omega arith in
    let width1 : packed c / 2 ^ 28 % 4 ≡ c.width1 = omega arith in
    let height0 : packed c / 2 ^ 26 % 4 ≡ c.height0 = omega arith in
    let height1 : packed c / 2 ^ 24 % 4 ≡ c.height1 = omega arith in
    let tx : packed c / 2 ^ 22 % 4 ≡ c.tx = omega arith in
    let uvtx : packed c / 2 ^ 20 % 4 ≡ c.uvtx = omega arith in
    let skipped : packed c / 2 ^ 19 % 2 ≡ bit c.skipped = omega arith in
    let present : packed c / 2 ^ 18 % 2 ≡ bit c.present = omega arith in
    let level : packed c / 2 ^ 12 % 64 ≡ c.level = omega arith in
    λ i. record {
      width0 = width0 i;
      width1 = width1 i;
      height0 = height0 i;
      height1 = height1 i;
      tx = tx i;
      uvtx = uvtx i;
      skipped = (ap (λ n. eqb n 1) skipped ∙ bit-back c.skipped) i;
      present = (ap (λ n. eqb n 1) present ∙ bit-back c.present) i;
      level = level i;
    }

-- a packed cell is a word of 32 bits, with 12 zero bits at its end
pub packed_small : (c : LfCell) → Fields c → packed c < 2 ^ 32
unfolding packed
packed_small c f =
    let s = bit_small c.skipped in
    let p = bit_small c.present in
    omega arith

pub packed-zeros : (c : LfCell) → Fields c → packed c % 2 ^ 12 ≡ 0
unfolding packed
packed-zeros c f = omega arith

-- the fields of any word fit their bits, and with its last 12 bits they make the word
pub cell_fields : (w : ℕ) → Fields (cell_of w)
unfolding cell_of
cell_fields w =
    record { width0 = omega arith; width1 = omega arith; height0 = omega arith; height1 = omega arith; tx = omega arith; uvtx = omega arith; level = omega arith }

pub word_back : (w : ℕ) → w < 2 ^ 32 → packed (cell_of w) + w % 2 ^ 12 ≡ w
unfolding packed cell_of
word_back w h =
    let skipped = bit_of (w / 2 ^ 19 % 2) (omega arith) in
    let present = bit_of (w / 2 ^ 18 % 2) (omega arith) in
    let w28 : w / 2 ^ 30 % 4 * 4 + w / 2 ^ 28 % 4 ≡ w / 2 ^ 28 = omega arith in
    let w26 : w / 2 ^ 28 * 4 + w / 2 ^ 26 % 4 ≡ w / 2 ^ 26 = omega arith in
    let w24 : w / 2 ^ 26 * 4 + w / 2 ^ 24 % 4 ≡ w / 2 ^ 24 = omega arith in
    let w22 : w / 2 ^ 24 * 4 + w / 2 ^ 22 % 4 ≡ w / 2 ^ 22 = omega arith in
    let w20 : w / 2 ^ 22 * 4 + w / 2 ^ 20 % 4 ≡ w / 2 ^ 20 = omega arith in
    let w19 : w / 2 ^ 20 * 2 + w / 2 ^ 19 % 2 ≡ w / 2 ^ 19 = omega arith in
    let w18 : w / 2 ^ 19 * 2 + w / 2 ^ 18 % 2 ≡ w / 2 ^ 18 = omega arith in
    let w12 : w / 2 ^ 18 * 64 + w / 2 ^ 12 % 64 ≡ w / 2 ^ 12 = omega arith in
    let w0 : w / 2 ^ 12 * 4096 + w % 2 ^ 12 ≡ w = omega arith in
    rw (skipped, present, w28, w26, w24, w22, w20, w19, w18, w12) w0
