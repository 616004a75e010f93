-- What an operation comes to, by document 01: accepted with a result, or refused with a number and a place.
-- Assumes nothing.
use Rattle.std.specs.Prelude.{◌≡◌, Bool, true, false, ℕ}

pub data Outcome (A : Type 0) : Type 0 where
  accepted : A → Outcome A
  refused : ℕ → ℕ → Outcome A

-- one line of document 01's table: where the test holds, this number and place; else what follows
abbrev pub refuse : {A : Type 0} → Bool → ℕ → ℕ → Outcome A → Outcome A
refuse true number place after = refused number place
refuse false number place after = after

-- what is held after the operation: its result, or what was held before where it was refused
abbrev pub held : {A : Type 0} → Outcome A → A → A
held (accepted a) before = a
held (refused number place) before = before

-- the number and the place alone, 0 and 0 where the operation was accepted
pub record Returned : Type 0 where
  pub number : ℕ
  pub place : ℕ

abbrev pub returned : {A : Type 0} → Outcome A → Returned
returned (accepted a) = record { number = 0; place = 0 }
returned (refused number place) = record { number = number; place = place }

-- the call returned r, and what was held before is now after
abbrev pub Answers : {A : Type 0} → Outcome A → Returned → A → A → Type 0
Answers o r before after = (r ≡ returned o) × (after ≡ held o before)
