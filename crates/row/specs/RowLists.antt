-- The mode info of a row as lists that are lent, and that of one cell.
-- Assumes nothing.
use Rattle.std.specs.Prelude.{ℕ, pos, get_or}
use Rattle.row.specs.Row.{ModeInfo, mode_info}
use Rattle.row.specs.declared.mode_info.CellMi.{CellMi}
use Rattle.row.specs.declared.mode_info.ModeInfoLists.{ModeInfoLists}

abbrev pub lists_of : ModeInfoLists → ModeInfo
lists_of l = mode_info l.mi_sizes.now l.tx_sizes.now l.skips.now l.ref_frames.now l.y_modes.now l.segment_ids.now

abbrev pub mi_at : ModeInfo → (k : ℕ) → CellMi
mi_at m k =
    record { mi_size = get_or m.sizes k 0; tx_size = get_or m.txs k 0; skip = get_or m.skips k 0; ref_frame = get_or m.refs k (pos 0); y_mode = get_or m.modes k 0; segment_id = get_or m.segments k 0 }
