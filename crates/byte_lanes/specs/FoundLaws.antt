-- A fold that looks for a test at each element.
-- Assumes nothing.
use Rattle.std.specs.Prelude.{◌≡◌, Bool, false, List, [], ◌∷◌, ◌||◌, ℕ, suc, ◌+◌, length, get_or}
use Rattle.std.specs.List.{fold}
use Rattle.std.proofs.Common.{sym, ap, ◌∙◌, one-add}
use Rattle.std.proofs.Math.Bool.{or_assoc, or-false}
use Rattle.base.specs.First.{found}
use Rattle.base.specs.FirstLaws.{found_join, found_same}

module _ {A : Type 0} (test : A → Bool) (d : A) where
  abbrev at : List A → ℕ → Bool
  at xs k = test (get_or xs k d)

  front : (x : A) (xs : List A) → found (at (x ∷ xs)) (suc (length xs)) ≡ test x || found (at xs) (length xs)
  unfolding found
  front x xs =
      ap (found (at (x ∷ xs))) (sym (one-add (length xs)))
      ∙ found_join (at (x ∷ xs)) 1 (length xs)
      ∙ ap (λ (b : Bool). test x || b) (found_same (λ k. at (x ∷ xs) (1 + k)) (at xs) (length xs) (λ k h. rw one-add))

  from : (b : Bool) (xs : List A) → fold (λ on x. on || test x) b xs ≡ b || found (at xs) (length xs)
  unfolding found
  from b [] = sym (or-false b)
  from b (x ∷ xs) = from (b || test x) xs ∙ or_assoc b (test x) _ ∙ ap (λ (c : Bool). b || c) (sym (front x xs))

  pub fold_found : (xs : List A) → fold (λ on x. on || test x) false xs ≡ found (at xs) (length xs)
  fold_found xs = from false xs
