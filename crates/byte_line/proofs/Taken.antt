-- The first entries of a list, as an array made of them in turn has them.
-- Assumes nothing.
use Rattle.std.proofs.Common.{◌≡◌, sym, ◌∙◌, List, ℕ, ◌≤◌, ◌<◌, length, get_or, take, replicate, arith, zero-add, length-take-le, get_or-take}
use Rattle.std.proofs.lemmas.List.{ext_get_or, length-replicate}
use Rattle.base.specs.Filled.{filled, filled_at, length-filled}

pub taken : (t : List ℕ) (n : ℕ) → n ≤ length t → filled (λ k. get_or t k 0) 0 n (replicate n 0) ≡ take n t
taken t n h =
    ext_get_or 0 _ _ (long ∙ sym (length-take-le n t h)) (λ k l. same k (omega (arith, long)))
  where
    zeros : length {A = ℕ} (replicate n 0) ≡ n
    zeros = length-replicate n 0

    long : length (filled (λ k. get_or t k 0) 0 n (replicate n 0)) ≡ n
    long = length-filled (λ k. get_or t k 0) 0 n (replicate n 0) ∙ zeros

    same : (k : ℕ) → k < n → get_or (filled (λ k. get_or t k 0) 0 n (replicate n 0)) k 0 ≡ get_or (take n t) k 0
    same k l =
        (rw (zero-add k) at (filled_at (λ k. get_or t k 0) 0 n (replicate n 0) k l (omega (arith, zeros)))) ∙ sym (get_or-take n t k 0 l)
