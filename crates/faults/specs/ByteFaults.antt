-- Refusals of a pass over bytes: they are in range at the depth that bytes have, so 13 need not be looked for.
-- Assumes nothing.
use Rattle.std.specs.Prelude.{◌≡◌, refl, true, false, List, ℕ, ◌*◌, ◌^◌, length}
use borrow.Author.Tests.{lt-leb}
use Rattle.base.specs.First.{found, found_none, refuse_first}
use Rattle.base.specs.Outcome.{Outcome, refuse}
use Rattle.base.specs.Width.{Byte, admits, Ranged, byte_range}
use Rattle.bad_words.specs.BadWord.{bad_cell}
use Rattle.geometry.specs.Frame.{cells_from}
use Rattle.geometry.specs.declared.Superblock.{Superblock}
use Rattle.window.specs.RangeLaws.{InRange, tested_range}
use Rattle.window.specs.Window.{bad_window, bad_sample}
use Rattle.window.specs.declared.WindowShape.{WindowShape}
use Rattle.faults.specs.FaultsLaws.{lent_refused}

-- refusals 11 and 12, with so many samples lent, and what follows them
abbrev pub byte_lists_refused : {A : Type 0} → WindowShape → Superblock → (cells : List ℕ) (lent : ℕ) → Outcome A → Outcome A
byte_lists_refused g s cells lent after =
    refuse_first (bad_cell cells) (cells_from s.row s.cols s.rows) 11
    (refuse (bad_window g lent) 12 0
    after)

module _ (g : WindowShape) (depth : ℕ) (samples : List ℕ) (d : admits Byte depth ≡ true) (r : Ranged Byte samples) where
  pub bytes_good : found (bad_sample g (2 ^ depth) samples) (g.height * g.width) ≡ false
  unfolding bad_sample
  bytes_good = found_none _ _ (λ k h. lt-leb (2 ^ depth) _ (byte_range depth d r _))

  pub bytes_range : InRange g (2 ^ depth) samples
  bytes_range = tested_range g (2 ^ depth) samples bytes_good

  -- so 11 and 12 are all that lists decide before the levels
  pub byte_lists : {A : Type 0} (s : Superblock) (cells : List ℕ) (after : Outcome A)
      → lent_refused g s depth cells samples after
      ≡ byte_lists_refused g s cells (length samples) after
  byte_lists s cells after = rw bytes_good refl
