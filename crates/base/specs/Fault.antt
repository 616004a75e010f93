-- Document 01's table of refusals: the number and the place of each fault, and what an operation returns.
-- Assumes nothing.
use Rattle.std.specs.Prelude.{ℕ, Result, Ok, Err}
use Rattle.base.specs.Outcome.{Outcome, accepted, refused, Returned}
use Rattle.base.specs.declared.fault.Fault.{Fault}
use Rattle.base.specs.declared.fault.Fault.TheVariants.{Sharpness, Depth, Subsampling, FrameSize, Row, Level, Short, Block, PlaneOrPass, Column, Cell, Window, Sample, NoLevel, FilterSize, Position, Header}

abbrev pub number_of : Fault → ℕ
number_of Sharpness = 1
number_of Depth = 2
number_of Subsampling = 3
number_of FrameSize = 4
number_of Row = 5
number_of (Level k) = 6
number_of Short = 7
number_of (Block k) = 8
number_of PlaneOrPass = 9
number_of Column = 10
number_of (Cell k) = 11
number_of Window = 12
number_of (Sample k) = 13
number_of (NoLevel k) = 14
number_of FilterSize = 15
number_of Position = 16
number_of Header = 17

abbrev pub place_of : Fault → ℕ
place_of (Level k) = k
place_of (Block k) = k
place_of (Cell k) = k
place_of (Sample k) = k
place_of (NoLevel k) = k
place_of _ = 0

-- what an operation comes to by its answer
abbrev pub outcome_of : {A : Type 0} → Result A Fault → Outcome A
outcome_of (Ok a) = accepted a
outcome_of (Err e) = refused (number_of e) (place_of e)

-- the number and the place alone
abbrev pub returned_of : {A : Type 0} → Result A Fault → Returned
returned_of (Ok a) = record { number = 0; place = 0 }
returned_of (Err e) = record { number = number_of e; place = place_of e }

-- what follows a test: nothing after a refusal
abbrev pub afterwards : {A B : Type 0} → Result B Fault → Outcome A → Outcome A
afterwards (Ok b) after = after
afterwards (Err e) after = refused (number_of e) (place_of e)
