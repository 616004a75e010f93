-- The chroma transform is the page's.
-- Assumes nothing.
use Rattle.std.specs.Prelude.{◌≡◌, refl, Bool, true, false, cond, ℕ, ◌≤◌, min, eqb, ltb}
use Rattle.std.proofs.Common.{arith}
use Rattle.section_8_8.specs.LoopFilterProcess as Std
use Rattle.chroma_transforms.specs.ChromaTransforms.{uv_tx_size}
use Rattle.chroma_transforms.specs.ChromaTransformsLaws.{uv_tx}
use Rattle.chroma_transforms.specs.ChromaTransformsStandard.{limit_standard}

pub uv_tx_standard : (tx_size mi_size sub_x sub_y : ℕ) → mi_size ≤ 12 → sub_x ≤ 1 → sub_y ≤ 1 → uv_tx_size tx_size mi_size (eqb sub_x 1) (eqb sub_y 1) ≡ Std.uv_tx_size tx_size mi_size sub_x sub_y
unfolding Std.uv_tx_size
uv_tx_standard tx_size mi_size sub_x sub_y h p q =
    rw (uv_tx tx_size mi_size (eqb sub_x 1) (eqb sub_y 1), limit_standard mi_size sub_x sub_y h p q) (cases (ltb mi_size 3) _)
  where
    cases : (t : Bool) (n : ℕ) → min tx_size (cond t 0 n) ≡ cond t 0 (min tx_size n)
    cases true n = omega arith
    cases false n = refl
