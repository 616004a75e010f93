-- What `sheet::run_sheet` writes into a buffer of 2,048 bytes.
use Rattle.std.proofs.Common.{◌≡◌, ◌∙◌, ℕ, ◌<◌, List, length, take, lt-ltb, Some}
use Rattle.std.proofs.Math.Seq.{take-append_seam}
use Rattle.sheet.specs.Sheet.{run_sheet}
use Rattle.sheet.specs.SheetAnswers.{answer_of, text_of}

-- there is room
pub written : (bytes out : List ℕ) → 2047 < length out → answer_of bytes out ≡ Some (length (run_sheet bytes))
unfolding answer_of
written bytes out h = rw (lt-ltb 2047 (length out) h)

-- the count is the text's length
pub count_of : (bytes out : List ℕ) (count : ℕ) → 2047 < length out → Some count ≡ answer_of bytes out → count ≡ length (run_sheet bytes)
count_of bytes out count h e = cc (e ∙ written bytes out h)

-- the text lies at the front
pub front_of : (bytes out : List ℕ) → 2047 < length out → take (length (run_sheet bytes)) (text_of bytes out) ≡ run_sheet bytes
unfolding text_of
front_of bytes out h = rw (lt-ltb 2047 (length out) h) (take-append_seam (run_sheet bytes) _)
