-- A lane: the 16 samples of a line by their names.
-- Assumes nothing.
use Rattle.std.specs.Prelude.{map, List, [], ◌∷◌, ℕ, ◌+◌, set}
use Rattle.lane.specs.declared.Four.{Four}
use Rattle.lane.specs.declared.Six.{Six}
use Rattle.lane.specs.declared.Lane.{Lane}

-- the line, and the line by the value of each sample
abbrev pub samples_of : {T : Type 0} → Lane T → List T
samples_of a = a.p7 ∷ a.p6 ∷ a.p5 ∷ a.p4 ∷ a.p3 ∷ a.p2 ∷ a.p1 ∷ a.p0 ∷ a.q0 ∷ a.q1 ∷ a.q2 ∷ a.q3 ∷ a.q4 ∷ a.q5 ∷ a.q6 ∷ a.q7 ∷ []

abbrev pub values_of : {T : Type 0} → (T → ℕ) → Lane T → List ℕ
values_of f a = map f (samples_of a)

-- the samples that can change: p1 to q1, p2 to q2, p6 to q6
abbrev pub four_of : {T : Type 0} → Four T → List T
four_of r = r.p1 ∷ r.p0 ∷ r.q0 ∷ r.q1 ∷ []

abbrev pub six_of : {T : Type 0} → Six T → List T
six_of r = r.p2 ∷ r.p1 ∷ r.p0 ∷ r.q0 ∷ r.q1 ∷ r.q2 ∷ []

abbrev pub fourteen_of : {T : Type 0} → Lane T → List T
fourteen_of r = r.p6 ∷ r.p5 ∷ r.p4 ∷ r.p3 ∷ r.p2 ∷ r.p1 ∷ r.p0 ∷ r.q0 ∷ r.q1 ∷ r.q2 ∷ r.q3 ∷ r.q4 ∷ r.q5 ∷ r.q6 ∷ []

-- a line with the samples vs stored from tap k on
abbrev pub put_taps : (t : List ℕ) (k : ℕ) (vs : List ℕ) → List ℕ
put_taps t k [] = t
put_taps t k (v ∷ vs) = put_taps (set t k v) (k + 1) vs
