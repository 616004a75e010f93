-- Laws of a sheet's header: how large its numbers are, and what test 17 leaves.
-- Assumes nothing.
use Rattle.std.specs.Prelude.{◌≡◌, false, not, List, ℕ, ◌≤◌, ◌<◌, eqb}
use Rattle.std.proofs.Common.{arith, ltb-false}
use Rattle.base.specs.Tests.{neither}
use Rattle.sheet_header.specs.SheetHeader.{header_of, bad_header}
use Rattle.sheet_header.specs.declared.SheetHeader.{SheetHeader}

pub record Header (h : SheetHeader) : Type 0 where
  pub plane : h.plane ≤ 3
  pub pass : h.pass ≤ 1
  pub row : h.row < 8192
  pub col : h.col < 8192

pub header_small : (bytes : List ℕ) → Header (header_of bytes)
unfolding header_of
header_small bytes = record { plane = omega arith; pass = omega arith; row = omega arith; col = omega arith }

-- test 17 leaves at most 1,024 columns
pub header_narrow : (h : SheetHeader) → bad_header h ≡ false → h.cols ≤ 1024
unfolding bad_header
header_narrow h e = ltb-false 1024 h.cols (neither (not (eqb h.spare 0)) e).1
