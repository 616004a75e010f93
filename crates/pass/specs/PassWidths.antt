-- The pass at both widths of samples: over bytes and over the same samples as u16 it gives the same answers.
-- Assumes nothing.
use Rattle.std.specs.Prelude.{◌≡◌, refl, List, ℕ}
use Rattle.base.specs.Depth.{supported}
use Rattle.base.specs.Width.{Byte, U16}
use Rattle.window.specs.declared.WindowShape.{WindowShape}
use Rattle.pass.specs.Pass.{superblock_loop_filter_cells}

-- THE SAME ANSWERS, at the depth that both admit: numbers, places and samples
pub same_pass : (g : WindowShape) (sharpness sub_x sub_y mi_cols mi_rows row col plane pass : ℕ) (cells samples : List ℕ)
    → superblock_loop_filter_cells Byte g sharpness 8 sub_x sub_y mi_cols mi_rows row col plane pass cells samples
    ≡ superblock_loop_filter_cells U16 g sharpness 8 sub_x sub_y mi_cols mi_rows row col plane pass cells samples
unfolding superblock_loop_filter_cells supported
same_pass g sharpness sub_x sub_y mi_cols mi_rows row col plane pass cells samples = refl
