-- The standard's frame as the code takes it: a superblock of one of its planes, a pass by its number, and shifts by its subsampling.
-- Assumes nothing.
use Rattle.std.specs.Prelude.{◌≡◌, Bool, true, false, cond, ℕ, zero, suc, ◌≤◌, eqb}
use Rattle.std.proofs.Common.{arith}
use Rattle.base.specs.Notation.{◌<<◌, ◌>>◌}
use Rattle.section_8_8.specs.LoopFilterProcess as Std
use Rattle.geometry.specs.Coordinates.{shl, shr}
use Rattle.geometry.specs.declared.Pass.{Pass}
use Rattle.geometry.specs.declared.Pass.TheVariants.{Vertical, Horizontal}
use Rattle.geometry.specs.declared.Superblock.{Superblock}

-- the superblock at (row, col) of a plane of the standard's frame, as the code takes it
abbrev pub superblock_at : Std.Frame → (plane row col : ℕ) → Superblock
superblock_at f plane row col =
    record {
      subx = eqb (Std.sub_x f plane) 1;
      suby = eqb (Std.sub_y f plane) 1;
      cols = f.mi_cols;
      rows = f.mi_rows;
      row = row;
      col = col;
    }

abbrev pub pass_number : Pass → ℕ
pass_number Vertical = 0
pass_number Horizontal = 1

-- what document 01's test 3 leaves
pub record Subsampled (f : Std.Frame) : Type 0 where
  pub x : f.subsampling_x ≤ 1
  pub y : f.subsampling_y ≤ 1

-- plane 0 is not subsampled
in_plane : (plane n : ℕ) → n ≤ 1 → cond (eqb plane 0) 0 n ≤ 1
in_plane plane n h = cases (eqb plane 0)
  where
    cases : (t : Bool) → cond t 0 n ≤ 1
    cases true = omega arith
    cases false = h

pub sub_x_small : (f : Std.Frame) → Subsampled f → (plane : ℕ) → Std.sub_x f plane ≤ 1
sub_x_small f s plane = in_plane plane f.subsampling_x s.x

pub sub_y_small : (f : Std.Frame) → Subsampled f → (plane : ℕ) → Std.sub_y f plane ≤ 1
sub_y_small f s plane = in_plane plane f.subsampling_y s.y

pub shl_flag : (n s : ℕ) → s ≤ 1 → shl n (eqb s 1) ≡ n << s
shl_flag n zero h = omega arith
shl_flag n (suc zero) h = omega arith
shl_flag n (suc (suc s)) h = absurd (omega arith)

pub shr_flag : (n s : ℕ) → s ≤ 1 → shr n (eqb s 1) ≡ n >> s
shr_flag n zero h = omega arith
shr_flag n (suc zero) h = omega arith
shr_flag n (suc (suc s)) h = absurd (omega arith)
