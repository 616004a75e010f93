-- Where the positions of a pass over a superblock lie: step 1 of 8.8.2, and the place of its step 17.
-- A superblock has the subsampling that holds in its plane.
-- Assumes nothing.
use Rattle.std.specs.Prelude.{◌≡◌, ℕ, ◌+◌, ◌*◌, ◌%◌, ◌≤◌, ◌<◌}
use Rattle.geometry.specs.Coordinates.{shl, shr}
use Rattle.geometry.specs.declared.Pass.{Pass}
use Rattle.geometry.specs.declared.Pass.TheVariants.{Vertical, Horizontal}
use Rattle.geometry.specs.declared.Superblock.{Superblock}

-- what is known of a superblock once document 01's tests 4, 5 and 10 are made
pub record Placed (s : Superblock) : Type 0 where
  pub cols : s.cols ≤ 8192
  pub rows : s.rows ≤ 8192
  pub row : s.row < s.rows
  pub col : s.col < s.cols
  pub row_eighth : s.row % 8 ≡ 0
  pub col_eighth : s.col % 8 ≡ 0

-- step 1: x and y, in luma samples
unfoldable pub luma_x : Superblock → Pass → (edge i : ℕ) → ℕ
luma_x s Vertical edge i = s.col * 8 + edge * shl 4 s.subx
luma_x s Horizontal edge i = s.col * 8 + shl i s.subx

unfoldable pub luma_y : Superblock → Pass → (edge i : ℕ) → ℕ
luma_y s Vertical edge i = s.row * 8 + shl i s.suby
luma_y s Horizontal edge i = s.row * 8 + edge * shl 4 s.suby

-- step 17 filters at plane position (x >> subX, y >> subY)
unfoldable pub plane_x : Superblock → Pass → (edge i : ℕ) → ℕ
plane_x s pass edge i = shr (luma_x s pass edge i) s.subx

unfoldable pub plane_y : Superblock → Pass → (edge i : ℕ) → ℕ
plane_y s pass edge i = shr (luma_y s pass edge i) s.suby
