-- The transform of a chroma block is the standard's.
-- Assumes nothing.
use Rattle.std.specs.Prelude.{◌≡◌, refl, true, false, cond, ℕ, zero, suc, ◌≤◌, eqb, ltb}
use Rattle.std.proofs.Common.{arith}
use Rattle.base.specs.First.{found, first_from}
use Rattle.blocks.specs.BlocksStandard.{at_sizes}
use Rattle.section_8_8.specs.LoopFilterProcess as Std
use Rattle.chroma_transforms.specs.ChromaTransforms.{max_tx_size, ss_size, uv_limit}

-- get_uv_tx_size( ) of the page without tx_size
abbrev limit : (sub_x sub_y mi_size : ℕ) → ℕ
limit sub_x sub_y mi_size = cond (ltb mi_size 3) 0 (Std.max_tx_size (Std.ss_size mi_size sub_x sub_y))

pub limit_standard : (mi_size sub_x sub_y : ℕ) → mi_size ≤ 12 → sub_x ≤ 1 → sub_y ≤ 1 → uv_limit (eqb sub_x 1) (eqb sub_y 1) mi_size ≡ limit sub_x sub_y mi_size
unfolding uv_limit ss_size max_tx_size found first_from Std.ss_size
limit_standard mi_size zero zero h p q = at_sizes (uv_limit false false) (limit 0 0) refl mi_size h
limit_standard mi_size zero (suc zero) h p q = at_sizes (uv_limit false true) (limit 0 1) refl mi_size h
limit_standard mi_size zero (suc (suc n)) h p q = absurd (omega arith)
limit_standard mi_size (suc zero) zero h p q = at_sizes (uv_limit true false) (limit 1 0) refl mi_size h
limit_standard mi_size (suc zero) (suc zero) h p q = at_sizes (uv_limit true true) (limit 1 1) refl mi_size h
limit_standard mi_size (suc zero) (suc (suc n)) h p q = absurd (omega arith)
limit_standard mi_size (suc (suc n)) sub_y h p q = absurd (omega arith)
