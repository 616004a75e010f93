-- What keys may be, and the key of a cell among them.
-- Assumes nothing.
use Rattle.std.specs.Prelude.{cond, List, ℕ, ◌+◌, ◌*◌, ◌/◌, ◌%◌, ◌<◌, eqb, get_or, slice_range}

-- three sizes
pub record Keyed (outer inner : List ℕ) : Type 0 where
  pub even : (k : ℕ) → k < 64 → get_or outer k 0 < 192
  pub odd : (k : ℕ) → k < 64 → get_or inner k 0 < 192

-- the keys of the 8 cells along an edge: the outer edges have the even numbers
unfoldable pub keys_along : (outer inner : List ℕ) (edge : ℕ) → List ℕ
keys_along outer inner edge = let at = 8 * (edge / 2) in slice_range (cond (eqb (edge % 2) 0) outer inner) at (at + 8)

-- the key of cell c along an edge: the outer edges have the even numbers
unfoldable pub key_for : (outer inner : List ℕ) (edge c : ℕ) → ℕ
key_for outer inner edge c = let k = 8 * (edge / 2) + c in cond (eqb (edge % 2) 0) (get_or outer k 0) (get_or inner k 0)
