-- Laws of outcomes: what is known of an operation that was accepted.
-- Assumes nothing.
use Rattle.std.specs.Prelude.{◌≡◌, refl, Bool, true, false, ℕ, ◌≤◌, T}
use Rattle.std.proofs.Common.{sym, ap, subst}
use Rattle.base.specs.Outcome.{Outcome, accepted, refused, refuse, held, returned}

module _ {A : Type 0} where
  abbrev was_accepted : Outcome A → Bool
  was_accepted (accepted a) = true
  was_accepted (refused number place) = false

  -- the test of a line did not hold, and what follows was accepted
  pub passed : (test : Bool) (number place : ℕ) (after : Outcome A) {result : A} → refuse test number place after ≡ accepted result → (test ≡ false) × (after ≡ accepted result)
  passed true number place after {result} e = absurd (subst T (sym (ap was_accepted e)) tt)
  passed false number place after e = (refl, e)

  -- a bound of an operation's place, line by line
  pub refuse-place : (b : ℕ) (test : Bool) (number place : ℕ) (after : Outcome A) → (test ≡ true → place ≤ b) → (test ≡ false → (returned after).place ≤ b) → (returned (refuse test number place after)).place ≤ b
  refuse-place b true number place after p q = p refl
  refuse-place b false number place after p q = q refl

  pub result_is : {a b : A} → accepted a ≡ accepted b → a ≡ b
  result_is {a} e = ap (λ (o : Outcome A). held o a) e
