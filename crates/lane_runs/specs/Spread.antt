-- Samples that stand by position and tap in a list: the lines of a run in the window, and the lanes of a table.
-- Assumes nothing.
use Rattle.std.specs.Prelude.{◌≡◌, ◌≢◌, List, ℕ, ◌+◌, ◌*◌, ◌≤◌, ◌<◌, length, get_or, replicate}

-- the place of tap k of position l
abbrev pub place_of : (at step along l k : ℕ) → ℕ
place_of at step along l k = at + l * along + k * step

-- no two of the first m taps of the first n positions share a place
pub record PlacesApart (at step along n m : ℕ) : Type 0 where
  pub apart : (l k i j : ℕ) → l < n → k < m → i < n → j < m → place_of at step along l k ≡ place_of at step along i j → (l ≡ i) × (k ≡ j)

abbrev pub Spaced : (at step along n : ℕ) → Type 0
Spaced at step along n = PlacesApart at step along n 16

-- of the lists w before and u after: tap k of position l is v l k for the first n positions and the m taps from lo on, and all else
-- is kept
pub record Spread (at step along n lo m : ℕ) (v : ℕ → ℕ → ℕ) (w u : List ℕ) : Type 0 where
  pub long : length u ≡ length w
  pub done : (l k : ℕ) → l < n → lo ≤ k → k < lo + m → get_or u (place_of at step along l k) 0 ≡ v l k
  pub kept : (j : ℕ) → ((l k : ℕ) → l < n → lo ≤ k → k < lo + m → j ≢ place_of at step along l k) → get_or u j 0 ≡ get_or w j 0

-- a run that lanes can take: at most 16 positions that share no sample
pub record SpacedRun (at step along n : ℕ) (w : List ℕ) : Type 0 where
  pub few : n ≤ 16
  pub spaced : Spaced at step along n
  pub lent : (l k : ℕ) → l < n → k < 16 → place_of at step along l k < length w

-- one with samples of 12 bits
pub record LaneRun (at step along n : ℕ) (w : List ℕ) : Type 0 where
  pub run : SpacedRun at step along n w
  pub small : (l k : ℕ) → l < n → k < 16 → get_or w (place_of at step along l k) 0 < 4096

-- a table of lanes with the m taps from lo on of the first n positions, zeros else
abbrev pub Loaded : (at step along n lo m : ℕ) (w t : List ℕ) → Type 0
Loaded at step along n lo m w t = Spread 0 16 1 n lo m (λ l k. get_or w (place_of at step along l k) 0) (replicate 256 0) t

-- one that has those taps; its other entries are of no interest
pub record Taken (at step along n lo m : ℕ) (w t : List ℕ) : Type 0 where
  pub taken : (l k : ℕ) → l < n → lo ≤ k → k < lo + m → get_or t (16 * k + l) 0 ≡ get_or w (place_of at step along l k) 0
