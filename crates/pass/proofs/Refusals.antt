-- What follows a test: nothing after a refusal, which changes nothing, and what follows one that is passed.
-- Assumes nothing.
use Rattle.std.specs.Prelude.{◌≡◌, refl, List, ℕ, Result, Ok, Err}
use Rattle.base.specs.Fault.{returned_of, afterwards}
use Rattle.base.specs.Outcome.{Outcome, Returned, Answers}
use Rattle.base.specs.declared.fault.Fault.{Fault}

module _ {A : Type 0} (answer : Result A Fault) (outcome after : Outcome (List ℕ)) (is : outcome ≡ afterwards answer after) where
  pub refused_answer : ((a : A) → answer ≡ Ok a → ⊥) → (samples : List ℕ) → Answers outcome (returned_of answer) samples samples
  refused_answer k samples = rw is (by answer k)
    where
      by : (r : Result A Fault) → ((a : A) → r ≡ Ok a → ⊥) → Answers (afterwards r after) (returned_of r) samples samples
      by (Ok a) k = absurd (k a refl)
      by (Err e) k = (refl, refl)

  pub passed_on : (a : A) → answer ≡ Ok a → outcome ≡ after
  passed_on a e = rw e at is

pub answers_on : (outcome after : Outcome (List ℕ)) (r : Returned) (before now : List ℕ) → outcome ≡ after → Answers after r before now → Answers outcome r before now
answers_on outcome after r before now e h = rw e h
