-- A chunk: at most 16 positions of an edge, each with a key of its own.
-- Assumes nothing.
use Rattle.std.specs.Prelude.{Bool, List, ℕ, leb, get_or}
use Rattle.base.specs.First.{found}

-- whether a key has size 2
abbrev pub any_large : (keys : List ℕ) → Bool
any_large keys = found (λ l. leb 128 (get_or keys l 0)) 16
