-- Rows of samples that are copied from one list into another.
-- Assumes nothing.
use Rattle.std.specs.Prelude.{List, ℕ, zero, suc, ◌++◌, ◌+◌, ◌*◌, ◌≤◌, ◌<◌, take, drop}
use Rattle.base.specs.Copied.{copied}

-- the list d with n entries from the place at on replaced by those of s from the place p on
abbrev pub row_copied : {A : Type 0} → (s : List A) (p n at : ℕ) (d : List A) → List A
row_copied s p n at d = take at d ++ copied (drop p s) n (drop at d)

-- m rows of n entries, from the row lo on: row k from the place p + k * step of s to the place at + k * apart of d
unfoldable pub rows_copied : {A : Type 0} → (s : List A) (p step at apart n lo m : ℕ) (d : List A) → List A
rows_copied s p step at apart n lo zero d = d
rows_copied s p step at apart n lo (suc m) d = row_copied s (p + (lo + m) * step) n (at + (lo + m) * apart) (rows_copied s p step at apart n lo m d)

-- those rows are in a list of this length
pub record RowsLent (at apart n lo m len : ℕ) : Type 0 where
  pub lent : (k : ℕ) → lo ≤ k → k < lo + m → at + k * apart + n ≤ len
