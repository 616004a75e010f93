-- Text as lists of ASCII codes, and a list with text written over a part of it.
-- Assumes nothing.
use Rattle.std.specs.Prelude.{◌≡◌, cond, List, [], ◌∷◌, ◌++◌, ℕ, zero, suc, ◌+◌, ◌-◌, ◌*◌, ◌/◌, ◌%◌, ltb, length, set}

-- the digit of a number below 10
abbrev pub digit : ℕ → ℕ
digit n = 48 + n

-- n in decimal, the most significant digit first; each turn uses up one of the first argument, and n of them are always enough
unfoldable pub decimal_in : (turns n : ℕ) → List ℕ
decimal_in zero n = digit (n % 10) ∷ []
decimal_in (suc turns) n = cond (ltb n 10) (digit n ∷ []) (decimal_in turns (n / 10) ++ digit (n % 10) ∷ [])

unfoldable pub decimal : ℕ → List ℕ
decimal n = decimal_in n n

-- what digits say, read from the left, where those before them said a number
unfoldable pub value_after : (before : ℕ) → List ℕ → ℕ
value_after before [] = before
value_after before (d ∷ digits) = value_after (10 * before + (d - 48)) digits

-- the number that digits say
abbrev pub value : List ℕ → ℕ
value digits = value_after 0 digits

-- the list with text in place of what it has from place at on; what does not fit is dropped
unfoldable pub written : (at : ℕ) (text : List ℕ) → List ℕ → List ℕ
written at [] out = out
written at (b ∷ text) out = written (suc at) text (set out at b)

-- text was written at a place, and end is the place behind it
abbrev pub Put : (at : ℕ) (text before after : List ℕ) (end : ℕ) → Type 0
Put at text before after end = (after ≡ written at text before) × (end ≡ at + length text)
