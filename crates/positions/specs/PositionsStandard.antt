-- Positions of a pass are the standard's: step 1 of 8.8.2, and the place of its step 17.
-- Assumes nothing.
use Rattle.std.specs.Prelude.{◌≡◌, ℕ}
use Rattle.base.specs.Notation.{◌>>◌}
use Rattle.section_8_8.specs.LoopFilterProcess as Std
use Rattle.geometry.specs.FrameStandard.{superblock_at, pass_number, Subsampled, sub_x_small, sub_y_small, shl_flag, shr_flag}
use Rattle.geometry.specs.declared.Pass.{Pass}
use Rattle.geometry.specs.declared.Pass.TheVariants.{Vertical, Horizontal}
use Rattle.positions.specs.Positions.{luma_x, luma_y, plane_x, plane_y}

module _ (f : Std.Frame) (small : Subsampled f) (plane row col edge i : ℕ) where
  pub x_standard : (pass : Pass) → luma_x (superblock_at f plane row col) pass edge i ≡ Std.x f plane (pass_number pass) row col edge i
  unfolding luma_x Std.x
  x_standard Vertical = rw (shl_flag 4 (Std.sub_x f plane) (sub_x_small f small plane))
  x_standard Horizontal = rw (shl_flag i (Std.sub_x f plane) (sub_x_small f small plane))

  pub y_standard : (pass : Pass) → luma_y (superblock_at f plane row col) pass edge i ≡ Std.y f plane (pass_number pass) row col edge i
  unfolding luma_y Std.y
  y_standard Vertical = rw (shl_flag i (Std.sub_y f plane) (sub_y_small f small plane))
  y_standard Horizontal = rw (shl_flag 4 (Std.sub_y f plane) (sub_y_small f small plane))

  pub plane_x_standard : (pass : Pass) → plane_x (superblock_at f plane row col) pass edge i ≡ Std.x f plane (pass_number pass) row col edge i >> Std.sub_x f plane
  unfolding plane_x
  plane_x_standard pass = rw (x_standard pass) (shr_flag _ (Std.sub_x f plane) (sub_x_small f small plane))

  pub plane_y_standard : (pass : Pass) → plane_y (superblock_at f plane row col) pass edge i ≡ Std.y f plane (pass_number pass) row col edge i >> Std.sub_y f plane
  unfolding plane_y
  plane_y_standard pass = rw (y_standard pass) (shr_flag _ (Std.sub_y f plane) (sub_y_small f small plane))
