use Rattle.std.proofs.Common.{◌≡◌, refl, ◌∙◌, arith, T, List, length, ℕ, ◌+◌, ◌*◌, ◌/◌, ◌%◌, ◌≤◌, ◌<◌}
use Rattle.base.specs.Entries.{entries_from, entry}
use Rattle.base.specs.Notation.{clip3}
use Rattle.strength.specs.Strength.{limit_of}
use Rattle.strength.specs.StrengthLaws.{Limits}
use Rattle.strength.proofs.limits_table.Goals as goal

-- The table's rule: one test that is computed over its 512 entries, and the rule's law at the entry read.
-- Assumes nothing.
-- the limit at a place of the table
limit_at : ℕ → ℕ
limit_at k = limit_of (k % 64) (k / 64)

placed : (lvl sharpness : ℕ) → lvl ≤ 63 → limit_at (sharpness * 64 + lvl) ≡ limit_of lvl sharpness
unfolding limit_at
placed lvl sharpness h = rw (level, sharp)
  where
    level : (sharpness * 64 + lvl) % 64 ≡ lvl
    level = omega arith

    sharp : (sharpness * 64 + lvl) / 64 ≡ sharpness
    sharp = omega arith

ruled : (l : List ℕ) → length l ≡ 512 → T (entries_from limit_at 0 l) → Limits l
ruled l e t = record {
  long = e;
  limit = λ lvl sharpness h k. let below : sharpness * 64 + lvl < length l = omega arith in entry limit_at l t (sharpness * 64 + lvl) below ∙ placed lvl sharpness h;
}

pub invariant_of-result : goal.invariant_of-result
unfolding limit_at limit_of clip3
invariant_of-result c = record { ruled = ruled _ refl tt }
