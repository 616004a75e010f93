-- A place that fits 32 bits crosses the border as it is.
-- Assumes nothing.
use Rattle.std.specs.Prelude.{◌≡◌, ℕ, ◌≤◌, ◌%◌}
use Rattle.std.proofs.Common.{ap, ◌∙◌, arith}
use Rattle.base.specs.Outcome.{Returned}
use Rattle.c_border.specs.Border.{crossing}

fits : (n : ℕ) → n ≤ 4294967295 → n % 4294967296 ≡ n
fits n h = omega (arith, h)

pub crossing_small : (r : Returned) → r.place ≤ 4294967295 → crossing r ≡ r
crossing_small r h = λ i. record { number = r.number; place = fits r.place h i }

-- so an answer whose place fits crosses as it is
pub crossed_as : {n r o : Returned} → n ≡ crossing r → r ≡ o → o.place ≤ 4294967295 → n ≡ o
crossed_as {n} {r} {o} e f h = e ∙ ap crossing f ∙ crossing_small o h
