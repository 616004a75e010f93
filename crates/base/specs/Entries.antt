-- The rule of a table, proved at all of its entries by one test that is computed, one entry after the other.
-- Assumes nothing.
use Rattle.std.specs.Prelude.{◌≡◌, Bool, true, false, ◌&&◌, List, [], ◌∷◌, ℕ, zero, suc, ◌+◌, ◌<◌, T, eqb, length, get_or}
use Rattle.std.proofs.Common.{◌∙◌, subst, sym, add-zero, zero-add, add-suc, suc-add, le_of_suc-le-suc, not-suc-le-zero, eqb→eq}

-- each entry of the list is what f gives for its place, counted from i
abbrev pub entries_from : (ℕ → ℕ) → ℕ → List ℕ → Bool
entries_from f i [] = true
entries_from f i (x ∷ xs) = eqb x (f i) && entries_from f (suc i) xs

and_left : (a b : Bool) → T (a && b) → T a
and_left true b t = tt
and_left false b t = t

and_right : (a b : Bool) → T (a && b) → T b
and_right true b t = t
and_right false b t = absurd t

from : (f : ℕ → ℕ) (xs : List ℕ) (i : ℕ) → T (entries_from f i xs) → (k : ℕ) → k < length xs → get_or xs k 0 ≡ f (i + k)
from f [] i t k h = absurd (not-suc-le-zero h)
from f (x ∷ xs) i t zero h = rw (add-zero i) (eqb→eq x (f i) (and_left (eqb x (f i)) (entries_from f (suc i) xs) t))
from f (x ∷ xs) i t (suc k) h =
    subst (λ (m : ℕ). get_or xs k 0 ≡ f m) (suc-add i k ∙ sym (add-suc i k))
    (from f xs (suc i) (and_right (eqb x (f i)) (entries_from f (suc i) xs) t) k (le_of_suc-le-suc h))

-- the rule at each entry of a table that passes the test
pub entry : (f : ℕ → ℕ) (xs : List ℕ) → T (entries_from f 0 xs) → (k : ℕ) → k < length xs → get_or xs k 0 ≡ f k
entry f xs t k h = rw (zero-add k) at (from f xs 0 t k h)
