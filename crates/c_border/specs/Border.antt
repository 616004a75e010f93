-- A refusal as the C border hands it over: its number and place, or 0 and 0.
-- Assumes nothing.
use Rattle.std.specs.Prelude.{◌%◌}
use Rattle.base.specs.Outcome.{Returned}
use Rattle.c_border.specs.declared.Refusal.{Refusal}

abbrev pub numbers_of : Refusal → Returned
numbers_of r = record { number = r.number; place = r.place }

-- what crosses of a number and a place: the place has 32 bits
abbrev pub crossing : Returned → Returned
crossing r = record { number = r.number; place = r.place % 4294967296 }
