-- The edges of a pass are the standard's: how many, and how many positions each has.
-- Assumes nothing.
use Rattle.std.specs.Prelude.{◌≡◌, refl, ℕ, zero, suc, ◌≤◌, eqb}
use Rattle.std.proofs.Common.{arith}
use Rattle.base.specs.Notation.{◌>>◌}
use Rattle.section_8_8.specs.LoopFilterProcess as Std
use Rattle.geometry.specs.FrameStandard.{superblock_at, pass_number, Subsampled, sub_x_small, sub_y_small, shr_flag}
use Rattle.geometry.specs.declared.Pass.{Pass}
use Rattle.geometry.specs.declared.Pass.TheVariants.{Vertical, Horizontal}
use Rattle.pass_edges.specs.PassEdges.{pass_of, sub, edge_count, edge_len}

pub pass_number_lem : (n : ℕ) → n ≤ 1 → pass_number (pass_of n) ≡ n
pass_number_lem zero h = refl
pass_number_lem (suc zero) h = refl
pass_number_lem (suc (suc n)) h = absurd (omega arith)

pub sub_standard : (f : Std.Frame) (plane row col : ℕ) (pass : Pass) → sub (superblock_at f plane row col) pass ≡ eqb (Std.sub f plane (pass_number pass)) 1
sub_standard f plane row col Vertical = refl
sub_standard f plane row col Horizontal = refl

pub sub_small : (f : Std.Frame) → Subsampled f → (plane : ℕ) (pass : Pass) → Std.sub f plane (pass_number pass) ≤ 1
sub_small f s plane Vertical = sub_x_small f s plane
sub_small f s plane Horizontal = sub_y_small f s plane

pub edge_count_standard : (f : Std.Frame) → Subsampled f → (plane row col : ℕ) (pass : Pass) → edge_count (superblock_at f plane row col) pass ≡ 16 >> Std.sub f plane (pass_number pass)
unfolding edge_count
edge_count_standard f s plane row col pass =
    rw (sub_standard f plane row col pass) (shr_flag 16 (Std.sub f plane (pass_number pass)) (sub_small f s plane pass))

pub edge_len_standard : (f : Std.Frame) → Subsampled f → (plane row col : ℕ) (pass : Pass) → edge_len (superblock_at f plane row col) pass ≡ Std.edge_len f plane (pass_number pass)
unfolding edge_len
edge_len_standard f s plane row col Vertical = shr_flag 64 (Std.sub_y f plane) (sub_y_small f s plane)
edge_len_standard f s plane row col Horizontal = shr_flag 64 (Std.sub_x f plane) (sub_x_small f s plane)
