-- Laws of chroma transforms for their users.
-- Assumes nothing.
use Rattle.std.specs.Prelude.{◌≡◌, refl, Bool, true, false, cond, ◌⊎◌, List, [], ℕ, ◌≤◌, min, eqb, ltb}
use Rattle.std.specs.Int.{from_bool}
use Rattle.std.proofs.Common.{inl, inr, arith, slice_index_or}
use Rattle.base.specs.First.{found, first_from, first_is}
use Rattle.blocks.specs.BlocksStandard.{at_sizes}
use Rattle.chroma_transforms.specs.ChromaTransforms.{max_tx_size, invalid, subsampled_to, ss_size, uv_limit, uv_tx_size}
use Rattle.chroma_transforms.specs.declared.TheConstants.{SS_SIZE_LOOKUP}

-- a chroma block that exists has one of the 13 sizes
pub ss_size_lem : (size : ℕ) (sub_x sub_y : Bool) → (ss_size size sub_x sub_y ≡ invalid) ⊎ (ss_size size sub_x sub_y ≤ 12)
unfolding ss_size
ss_size_lem size sub_x sub_y = cases (found (subsampled_to size sub_x sub_y) 13) refl
  where
    cases : (t : Bool) → found (subsampled_to size sub_x sub_y) 13 ≡ t → (ss_size size sub_x sub_y ≡ invalid) ⊎ (ss_size size sub_x sub_y ≤ 12)
    cases true e = let f = first_is (subsampled_to size sub_x sub_y) 13 e in inr (rw e (omega (arith, f.to)))
    cases false e = inl (rw e)

-- the entries of ss_size_lookup
abbrev listed : (size x y : ℕ) → ℕ
listed size x y = slice_index_or (slice_index_or (slice_index_or {A = List (List ℕ)} SS_SIZE_LOOKUP size []) x []) y 0

pub ss_size_listed : (size at x y : ℕ) (sub_x sub_y : Bool) → size ≤ 12 → at ≡ size → x ≡ from_bool sub_x → y ≡ from_bool sub_y → listed at x y ≡ ss_size size sub_x sub_y
unfolding ss_size found first_from
ss_size_listed size at x y sub_x sub_y h a b c = rw (a, b, c) (cases sub_x sub_y)
  where
    cases : (s t : Bool) → listed size (from_bool s) (from_bool t) ≡ ss_size size s t
    cases false false = at_sizes (λ n. listed n 0 0) (λ n. ss_size n false false) refl size h
    cases false true = at_sizes (λ n. listed n 0 1) (λ n. ss_size n false true) refl size h
    cases true false = at_sizes (λ n. listed n 1 0) (λ n. ss_size n true false) refl size h
    cases true true = at_sizes (λ n. listed n 1 1) (λ n. ss_size n true true) refl size h

-- a chroma transform is the lesser of the luma one and its limit
pub uv_tx : (tx_size mi_size : ℕ) (sub_x sub_y : Bool) → uv_tx_size tx_size mi_size sub_x sub_y ≡ min tx_size (uv_limit sub_x sub_y mi_size)
unfolding uv_tx_size uv_limit
uv_tx tx_size mi_size sub_x sub_y = cases (ltb mi_size 3) (eqb (ss_size mi_size sub_x sub_y) invalid) (max_tx_size (ss_size mi_size sub_x sub_y))
  where
    cases : (s t : Bool) (n : ℕ) → cond s 0 (cond t 0 (min tx_size n)) ≡ min tx_size (cond s 0 (cond t 0 n))
    cases true t n = omega arith
    cases false true n = omega arith
    cases false false n = refl

pub uv_tx_small : (tx_size mi_size : ℕ) (sub_x sub_y : Bool) → uv_tx_size tx_size mi_size sub_x sub_y ≤ tx_size
uv_tx_small tx_size mi_size sub_x sub_y = rw (uv_tx tx_size mi_size sub_x sub_y) (least tx_size (uv_limit sub_x sub_y mi_size))
  where
    least : (a b : ℕ) → min a b ≤ a
    least a b = omega arith
