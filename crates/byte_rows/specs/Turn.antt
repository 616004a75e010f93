-- Tables turned: the rows of one are the columns of the other.
-- Assumes nothing.
use Rattle.std.specs.Prelude.{◌≡◌, List, ℕ, ◌+◌, ◌*◌, ◌<◌, length, get_or}

-- of m rows of n entries, in t from the place from on, the first z columns are rows of m entries, in u from the place to on
pub record TurnedTo (z to from m n : ℕ) (t u : List ℕ) : Type 0 where
  pub turned : (l k : ℕ) → l < m → k < z → get_or u (to + m * k + l) 0 ≡ get_or t (from + n * l + k) 0
  pub long : length u ≡ 256

-- all columns
abbrev pub Turned : (to from m n : ℕ) (t u : List ℕ) → Type 0
Turned to from m n t u = TurnedTo n to from m n t u
