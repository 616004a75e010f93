-- A list of 16 entries is its entries.
-- Assumes nothing.
use Rattle.std.proofs.Common.{◌≡◌, refl, sym, List, [], ◌∷◌, ℕ, zero, suc, ◌<◌, length, get_or, arith}
use Rattle.std.proofs.lemmas.List.{ext_get_or}

pub whole : (t : List ℕ) → length t ≡ 16 → get_or t 0 0 ∷ get_or t 1 0 ∷ get_or t 2 0 ∷ get_or t 3 0 ∷ get_or t 4 0 ∷ get_or t 5 0 ∷ get_or t 6 0 ∷ get_or t 7 0 ∷ get_or t 8 0 ∷ get_or t 9 0 ∷ get_or t 10 0 ∷ get_or t 11 0 ∷ get_or t 12 0 ∷ get_or t 13 0 ∷ get_or t 14 0 ∷ get_or t 15 0 ∷ [] ≡ t
whole t e = ext_get_or 0 _ t (sym e) same
  where
    same : (k : ℕ) → k < 16 → get_or (get_or t 0 0 ∷ get_or t 1 0 ∷ get_or t 2 0 ∷ get_or t 3 0 ∷ get_or t 4 0 ∷ get_or t 5 0 ∷ get_or t 6 0 ∷ get_or t 7 0 ∷ get_or t 8 0 ∷ get_or t 9 0 ∷ get_or t 10 0 ∷ get_or t 11 0 ∷ get_or t 12 0 ∷ get_or t 13 0 ∷ get_or t 14 0 ∷ get_or t 15 0 ∷ []) k 0 ≡ get_or t k 0
    same zero h = refl
    same (suc zero) h = refl
    same (suc (suc zero)) h = refl
    same (suc (suc (suc zero))) h = refl
    same (suc (suc (suc (suc zero)))) h = refl
    same (suc (suc (suc (suc (suc zero))))) h = refl
    same (suc (suc (suc (suc (suc (suc zero)))))) h = refl
    same (suc (suc (suc (suc (suc (suc (suc zero))))))) h = refl
    same (suc (suc (suc (suc (suc (suc (suc (suc zero)))))))) h = refl
    same (suc (suc (suc (suc (suc (suc (suc (suc (suc zero))))))))) h = refl
    same (suc (suc (suc (suc (suc (suc (suc (suc (suc (suc zero)))))))))) h = refl
    same (suc (suc (suc (suc (suc (suc (suc (suc (suc (suc (suc zero))))))))))) h = refl
    same (suc (suc (suc (suc (suc (suc (suc (suc (suc (suc (suc (suc zero)))))))))))) h = refl
    same (suc (suc (suc (suc (suc (suc (suc (suc (suc (suc (suc (suc (suc zero))))))))))))) h = refl
    same (suc (suc (suc (suc (suc (suc (suc (suc (suc (suc (suc (suc (suc (suc zero)))))))))))))) h = refl
    same (suc (suc (suc (suc (suc (suc (suc (suc (suc (suc (suc (suc (suc (suc (suc zero))))))))))))))) h = refl
    same (suc (suc (suc (suc (suc (suc (suc (suc (suc (suc (suc (suc (suc (suc (suc (suc k)))))))))))))))) h = absurd (omega arith)
