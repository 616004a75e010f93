-- The setting of a pass, by the code's numbers and the words of the cells.
-- Assumes nothing.
use Rattle.std.specs.Prelude.{◌≡◌, true, List, ℕ, ◌≤◌, ltb}
use Rattle.base.specs.Depth.{supported}
use Rattle.decided.specs.Decided.{Setting, setting, superblock_of}
use Rattle.geometry.specs.declared.pass_numbers.PassNumbers.{PassNumbers}
use Rattle.pass_edges.specs.PassEdges.{pass_of}
use Rattle.positions.specs.Positions.{Placed}
use Rattle.pass.specs.declared.setting.PassSetting.{PassSetting}

abbrev pub setting_by : PassSetting → (cells : List ℕ) → Setting
setting_by t cells = setting t.s.of t.chroma t.sharpness.level t.depth.bits cells

-- of numbers: what their tests leave
pub record Tested (n : PassNumbers) : Type 0 where
  pub sharpness : n.sharpness ≤ 7
  pub depth : supported n.bit_depth ≡ true
  pub placed : Placed (superblock_of n.sub_x n.sub_y n.mi_cols n.mi_rows n.mi_row n.mi_col n.plane)

-- and the setting that they name
pub record SettingOf (n : PassNumbers) (t : PassSetting) : Type 0 where
  pub s : t.s.of ≡ superblock_of n.sub_x n.sub_y n.mi_cols n.mi_rows n.mi_row n.mi_col n.plane
  pub pass : t.pass ≡ pass_of n.pass
  pub chroma : t.chroma ≡ ltb 0 n.plane
  pub sharpness : t.sharpness.level ≡ n.sharpness
  pub depth : t.depth.bits ≡ n.bit_depth
