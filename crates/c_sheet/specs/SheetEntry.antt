-- The run sheet at the C border: a count, 0 where there was no room. A text is never empty (`sheet_some`).
-- Assumes nothing.
use Rattle.std.specs.Prelude.{ℕ, Option, Some, None}

abbrev pub count_of : Option ℕ → ℕ
count_of (Some count) = count
count_of None = 0
