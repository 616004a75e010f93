-- Laws of the positions of a pass: what the tests of a superblock leave, and where positions are in the plane.
-- Assumes nothing.
use Rattle.std.specs.Prelude.{◌≡◌, refl, Bool, true, false, ℕ, ◌+◌, ◌*◌}
use Rattle.std.proofs.Common.{arith}
use Rattle.geometry.specs.Coordinates.{shl, shr}
use Rattle.geometry.specs.Frame.{bad_frame_size, bad_start}
use Rattle.geometry.specs.FrameLaws.{sized, started}
use Rattle.geometry.specs.declared.Pass.TheVariants.{Vertical, Horizontal}
use Rattle.geometry.specs.declared.Superblock.{Superblock}
use Rattle.positions.specs.Positions.{Placed, luma_x, luma_y, plane_x, plane_y}

pub placed : (s : Superblock) → bad_frame_size s.cols s.rows ≡ false → bad_start s.row s.rows ≡ false → bad_start s.col s.cols ≡ false → Placed s
placed s frame row col =
    let f = sized s.cols s.rows frame in
    let r = started s.row s.rows row in
    let k = started s.col s.cols col in
    record { cols = f.cols; rows = f.rows; row = r.below; col = k.below; row_eighth = r.eighth; col_eighth = k.eighth }

-- positions i and i + k in the plane, where the superblock starts n cells from the frame's border
plane_along : (n i k : ℕ) (sub : Bool) → shr (n * 8 + shl (i + k) sub) sub ≡ shr (n * 8 + shl i sub) sub + k
plane_along n i k true = omega arith
plane_along n i k false = omega arith

-- the positions of an edge lie one below the other in the vertical pass, one beside the other in the horizontal one
pub plane_vertical : (s : Superblock) (edge i k : ℕ) → (plane_x s Vertical edge (i + k) ≡ plane_x s Vertical edge i) × (plane_y s Vertical edge (i + k) ≡ plane_y s Vertical edge i + k)
unfolding plane_x plane_y luma_x luma_y
plane_vertical s edge i k = (refl, plane_along s.row i k s.suby)

pub plane_horizontal : (s : Superblock) (edge i k : ℕ) → (plane_x s Horizontal edge (i + k) ≡ plane_x s Horizontal edge i + k) × (plane_y s Horizontal edge (i + k) ≡ plane_y s Horizontal edge i)
unfolding plane_x plane_y luma_x luma_y
plane_horizontal s edge i k = (plane_along s.col i k s.subx, refl)
