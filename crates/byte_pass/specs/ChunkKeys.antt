-- The keys of a chunk: each position of an edge has the key of its cell.
-- Assumes nothing.
use Rattle.std.specs.Prelude.{◌≡◌, List, ℕ, ◌/◌, ◌%◌, ◌<◌, get_or, length, Option, MatchOption}
use Rattle.byte_lanes.specs.declared.lane_keys.LaneKeys.{LaneKeys}

-- the keys of the cells of 16 positions, len to a cell
pub record CellKeys (len : ℕ) (cells : List ℕ) : Type 0 where
  pub some : 0 < len
  pub enough : (k : ℕ) → k < 16 → k / len < length cells
  pub small : (k : ℕ) → k < 16 → get_or cells (k / len) 0 < 192

-- the keys of 16 positions, or none where none of them is filtered
abbrev pub KeysIfAny : (key : ℕ → ℕ) → Option LaneKeys → Type 0
KeysIfAny key given = MatchOption given ((k : ℕ) → k < 16 → key k % 64 ≡ 0) (λ keys. (k : ℕ) → k < 16 → get_or keys.of k 0 ≡ key k)
