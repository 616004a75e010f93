-- Walks over lists and strips: a list after a list, a strip one longer, and steps that may be left out.
-- Assumes nothing.
use Rattle.std.specs.Prelude.{◌≡◌, refl, Bool, true, false, cond, ℕ, ◌+◌}
use Rattle.std.proofs.Common.{ap, ◌∙◌, List, [], ◌∷◌, ◌++◌}
use mathlib.Core.List.{Memᴰ}
use Rattle.order.specs.Order.{run}
use Rattle.order.specs.Grid.{keep_if, select, strip, strip_split}

module _ {A S : Type 0} (f : A → S → S) where
  pub run_append : (l m : List A) (s : S) → run f (l ++ m) s ≡ run f m (run f l s)
  run_append [] m s = refl
  run_append (a ∷ l) m s = run_append l m (f a s)

  module _ (mk : ℕ → ℕ → A) where
    -- the last turn of an inner loop that starts at i
    pub run_strip_next : (e i n : ℕ) (s : S) → run f (strip mk e i (n + 1)) s ≡ f (mk e (i + n)) (run f (strip mk e i n) s)
    run_strip_next e i n s =
        ap (λ (l : List A). run f l s) (strip_split mk e i n 1 (i + n) refl) ∙ run_append (strip mk e i n) (mk e (i + n) ∷ []) s

-- steps that a test does not admit, and that do nothing, may be left out
pub run_idle : {A S : Type 0} (f : A → S → S) (q : A → Bool) (l : List A) → ((a : A) → Memᴰ a l → q a ≡ false → (s : S) → f a s ≡ s) → (s : S) → run f l s ≡ run f (select q l) s
run_idle f q [] h s = refl
run_idle {A} {S} f q (a ∷ l) h s = by (q a) refl (run_idle f q l (λ b m. h b (Memᴰ.tail m)))
  where
    by : (b : Bool) → q a ≡ b → ((u : S) → run f l u ≡ run f (select q l) u) → run f l (f a s) ≡ run f (keep_if b a (select q l)) s
    by true e rest = rest (f a s)
    by false e rest = ap (run f l) (h a (Memᴰ.head refl) e s) ∙ rest s

-- Two walks beside each other, one over the members that a test admits and one over all: what holds of the two ends, where each
-- member's steps keep it
pub run_beside : {A S U : Type 0} (R : S → U → Type 0) (f : A → S → S) (q : A → Bool) (g : A → U → U) (l : List A)
    → ((a : A) → Memᴰ a l → (s : S) (u : U) → R s u → R (cond (q a) (f a s) s) (g a u)) → (s : S) (u : U) → R s u → R (run f (select q l) s) (run g l u)
run_beside R f q g [] h s u r = r
run_beside {A} {S} {U} R f q g (a ∷ l) h s u r = by (q a) refl (h a (Memᴰ.head refl) s u r) (run_beside R f q g l (λ b m. h b (Memᴰ.tail m)))
  where
    by : (b : Bool) → q a ≡ b → R (cond b (f a s) s) (g a u) → ((s' : S) (u' : U) → R s' u' → R (run f (select q l) s') (run g l u')) → R (run f (keep_if b a (select q l)) s) (run g l (g a u))
    by true e n rest = rest (f a s) (g a u) n
    by false e n rest = rest s (g a u) n
