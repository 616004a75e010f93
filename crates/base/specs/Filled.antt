-- A list some of whose entries are given by their places, as a loop that stores them in turn leaves it.
-- Assumes nothing.
use Rattle.std.specs.Prelude.{◌≡◌, refl, List, [], ◌∷◌, ◌++◌, ◌⊎◌, ℕ, zero, suc, ◌+◌, ◌≤◌, ◌<◌, length, get_or, set, take}
use Rattle.std.proofs.Common.{sym, ◌∙◌, inl, inr, ⊎_elim, zero-add, add-zero, add-suc, add_assoc, eq-or-lt_of_le, le_of_suc-le-suc, not-suc-le-zero, add-one, arith, length-set, get_or-set_same, get_or-set_other, take-suc-set}

-- the list with n entries from place s on replaced by f s, f (s + 1), ..
unfoldable pub filled : (ℕ → ℕ) → ℕ → ℕ → List ℕ → List ℕ
filled f s zero l = l
filled f s (suc n) l = set (filled f s n l) (s + n) (f (s + n))

-- the n entries f 0, f 1, ..
unfoldable pub table : (ℕ → ℕ) → ℕ → List ℕ
table f zero = []
table f (suc n) = table f n ++ f n ∷ []

pub filled_none : (f : ℕ → ℕ) (s : ℕ) (l : List ℕ) → l ≡ filled f s 0 l
unfolding filled
filled_none f s l = refl

pub filled_more : (f : ℕ → ℕ) (s n : ℕ) (l : List ℕ) → set (filled f s n l) (s + n) (f (s + n)) ≡ filled f s (n + 1) l
unfolding filled
filled_more f s n l = rw (add-one n)

-- a stretch of entries, and the next
pub filled_join : (f : ℕ → ℕ) (s m n : ℕ) (l : List ℕ) → filled f (s + m) n (filled f s m l) ≡ filled f s (m + n) l
unfolding filled
filled_join f s m zero l = rw (add-zero m)
filled_join f s m (suc n) l = rw (filled_join f s m n l, add-suc m n, add_assoc s m n)

-- only the values at the places filled count
pub filled_same : (f g : ℕ → ℕ) (s n : ℕ) (l : List ℕ) → ((k : ℕ) → k < n → f (s + k) ≡ g (s + k)) → filled f s n l ≡ filled g s n l
unfolding filled
filled_same f g s zero l h = refl
filled_same f g s (suc n) l h =
    rw (filled_same f g s n l (λ k p. h k (omega arith)), h n (omega arith))

pub length-filled : (f : ℕ → ℕ) (s n : ℕ) (l : List ℕ) → length (filled f s n l) ≡ length l
unfolding filled
length-filled f s zero l = refl
length-filled f s (suc n) l = length-set (filled f s n l) (s + n) (f (s + n)) ∙ length-filled f s n l

-- an entry that was filled
pub filled_at : (f : ℕ → ℕ) (s n : ℕ) (l : List ℕ) (k : ℕ) → k < n → s + n ≤ length l → get_or (filled f s n l) (s + k) 0 ≡ f (s + k)
unfolding filled
filled_at f s zero l k h e = absurd (not-suc-le-zero h)
filled_at f s (suc n) l k h e =
    ⊎_elim
    (λ (q : k ≡ n). rw q (get_or-set_same (filled f s n l) (s + n) (f (s + n)) 0 (omega (arith, length-filled f s n l))))
    (λ (q : k < n).
    get_or-set_other (filled f s n l) (s + n) (s + k) (f (s + n)) 0 (λ r. omega arith)
    ∙ filled_at f s n l k q (omega arith))
    (eq-or-lt_of_le (le_of_suc-le-suc h))

-- an entry that was not
pub filled_other : (f : ℕ → ℕ) (s n : ℕ) (l : List ℕ) (k : ℕ) → (k < s) ⊎ (s + n ≤ k) → get_or (filled f s n l) k 0 ≡ get_or l k 0
unfolding filled
filled_other f s zero l k h = refl
filled_other f s (suc n) l k h =
    get_or-set_other (filled f s n l) (s + n) k (f (s + n)) 0 (λ r. ⊎_elim (λ (p : k < s). omega arith) (λ (p : s + suc n ≤ k). omega arith) h)
    ∙ filled_other f s n l k (⊎_elim (λ (p : k < s). inl p) (λ (p : s + suc n ≤ k). inr (omega arith)) h)

-- entries that are all below b, and stay so
pub set_below : (b : ℕ) (l : List ℕ) (i v k : ℕ) → v < b → get_or l k 0 < b → get_or (set l i v) k 0 < b
set_below b [] i v k h g = g
set_below b (x ∷ l) zero v zero h g = h
set_below b (x ∷ l) zero v (suc k) h g = g
set_below b (x ∷ l) (suc i) v zero h g = g
set_below b (x ∷ l) (suc i) v (suc k) h g = set_below b l i v k h g

pub filled-below : (b : ℕ) (f : ℕ → ℕ) (s n : ℕ) (l : List ℕ) (k : ℕ) → ((j : ℕ) → f j < b) → get_or l k 0 < b → get_or (filled f s n l) k 0 < b
unfolding filled
filled-below b f s zero l k h g = g
filled-below b f s (suc n) l k h g = set_below b (filled f s n l) (s + n) (f (s + n)) k (h (s + n)) (filled-below b f s n l k h g)

-- two lists of one length that agree at a place, and go on to agree there
pub set_agree : (l m : List ℕ) (i v k : ℕ) → length l ≡ length m → get_or l k 0 ≡ get_or m k 0 → get_or (set l i v) k 0 ≡ get_or (set m i v) k 0
set_agree [] [] i v k e g = g
set_agree [] (y ∷ m) i v k e g = absurd (omega arith)
set_agree (x ∷ l) [] i v k e g = absurd (omega arith)
set_agree (x ∷ l) (y ∷ m) zero v zero e g = refl
set_agree (x ∷ l) (y ∷ m) zero v (suc k) e g = g
set_agree (x ∷ l) (y ∷ m) (suc i) v zero e g = g
set_agree (x ∷ l) (y ∷ m) (suc i) v (suc k) e g = set_agree l m i v k (omega arith) g

pub filled_agree : (f g : ℕ → ℕ) (s n : ℕ) (l m : List ℕ) (k : ℕ) → ((j : ℕ) → f j ≡ g j) → length l ≡ length m → get_or l k 0 ≡ get_or m k 0 → get_or (filled f s n l) k 0 ≡ get_or (filled g s n m) k 0
unfolding filled
filled_agree f g s zero l m k h e a = a
filled_agree f g s (suc n) l m k h e a =
    rw (h (s + n))
    (set_agree (filled f s n l) (filled g s n m) (s + n) (g (s + n)) k (length-filled f s n l ∙ e ∙ sym (length-filled g s n m)) (filled_agree f g s n l m k h e a))

-- a list whose first entries are filled starts with the table
pub take-filled : (f : ℕ → ℕ) (n : ℕ) (l : List ℕ) → n ≤ length l → take n (filled f 0 n l) ≡ table f n
unfolding filled table
take-filled f zero l h = refl
take-filled f (suc n) l h =
    rw (zero-add n, take-suc-set (filled f 0 n l) n (f n) (omega (arith, length-filled f 0 n l)), take-filled f n l (omega arith))
