-- The strength at the C border: the refusal and the values in one record.
-- Assumes nothing.
use Rattle.base.specs.Outcome.{Outcome, accepted, refused}
use Rattle.strength.specs.declared.FilterStrength.{FilterStrength}
use Rattle.c_strength.specs.declared.Strength.{Strength}

-- a refusal has no values: zeros
abbrev pub entry_of : Outcome FilterStrength → Strength
entry_of (accepted s) = record { number = 0; place = 0; limit = s.limit; blimit = s.blimit; thresh = s.thresh }
entry_of (refused number place) = record { number = number; place = place; limit = 0; blimit = 0; thresh = 0 }
