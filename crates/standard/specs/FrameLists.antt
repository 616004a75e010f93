-- The standard's frame beside what document 01's operations are handed: the mode info of a superblock row, and a level table.
-- Assumes nothing.
use Rattle.std.specs.Prelude.{◌≡◌, ℕ, ◌+◌, ◌-◌, ◌*◌, ◌≤◌, ◌<◌, eqb, pos, get_or, List}
use Rattle.level_lookup.specs.LevelLookup.{level_at}
use Rattle.row.specs.Row.{ModeInfo}
use Rattle.section_8_8.specs.LoopFilterProcess as Std

-- cell (r, c) of the frame is one of the superblock row that starts at row base
pub record InRow (f : Std.Frame) (base r c : ℕ) : Type 0 where
  pub from : base ≤ r
  pub to : r < base + 8
  pub rows : r < f.mi_rows
  pub cols : c < f.mi_cols

-- its place in the row's lists
abbrev pub place_in : Std.Frame → (base r c : ℕ) → ℕ
place_in f base r c = (r - base) * f.mi_cols + c

-- the lists hold the frame's mode info
pub record Holds (f : Std.Frame) (base : ℕ) (m : ModeInfo) : Type 0 where
  pub sizes : (r c : ℕ) → InRow f base r c → f.mi_size r c ≡ get_or m.sizes (place_in f base r c) 0
  pub txs : (r c : ℕ) → InRow f base r c → f.tx_size r c ≡ get_or m.txs (place_in f base r c) 0
  pub skips : (r c : ℕ) → InRow f base r c → f.skip r c ≡ eqb (get_or m.skips (place_in f base r c) 0) 1
  pub refs : (r c : ℕ) → InRow f base r c → f.ref_frame r c ≡ get_or m.refs (place_in f base r c) (pos 0)
  pub modes : (r c : ℕ) → InRow f base r c → f.y_mode r c ≡ get_or m.modes (place_in f base r c) 0
  pub segments : (r c : ℕ) → InRow f base r c → f.segment_id r c ≡ get_or m.segments (place_in f base r c) 0

-- the flat level table has, for each cell of the row whose segment and reference exist, the entry of the standard's
pub record Entries (f : Std.Frame) (base : ℕ) (levels : List ℕ) (table : (segment ref mode : ℕ) → ℕ) : Type 0 where
  pub entry : (r c ref : ℕ) → InRow f base r c → f.ref_frame r c ≡ pos ref → ref < 4 → f.segment_id r c < 8
      → get_or levels (level_at (f.segment_id r c) ref (Std.mode_type (f.y_mode r c))) 0 ≡ table (f.segment_id r c) ref (Std.mode_type (f.y_mode r c))
