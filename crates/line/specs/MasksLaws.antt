-- The tests read p3 to q3, and outer flat all 16 samples.
-- Assumes nothing.
use Rattle.std.specs.Prelude.{◌≡◌, List, ℕ, ◌≤◌, ◌<◌}
use Rattle.std.proofs.Common.{arith}
use Rattle.line.specs.Masks.{hev_mask, filter_mask, flat_at, flat_mask, flat_mask2}
use Rattle.wide_filter.specs.Taps.{Agree, agree_p, agree_q}

module _ (r : ℕ) (t u : List ℕ) (a : Agree r t u) where
  pub hev_agree : (thresh : ℕ) → 2 ≤ r → hev_mask thresh t ≡ hev_mask thresh u
  unfolding hev_mask
  hev_agree thresh h = rw (agree_p r t u 0 a (omega arith) (omega arith), agree_p r t u 1 a (omega arith) (omega arith), agree_q r t u 0 a (omega arith), agree_q r t u 1 a (omega arith))

  pub mask_agree : (limit blimit : ℕ) → 4 ≤ r → filter_mask limit blimit t ≡ filter_mask limit blimit u
  unfolding filter_mask
  mask_agree limit blimit h = rw (agree_p r t u 0 a (omega arith) (omega arith), agree_p r t u 1 a (omega arith) (omega arith), agree_p r t u 2 a (omega arith) (omega arith), agree_p r t u 3 a (omega arith) (omega arith), agree_q r t u 0 a (omega arith), agree_q r t u 1 a (omega arith), agree_q r t u 2 a (omega arith), agree_q r t u 3 a (omega arith))

  at_agree : (one k : ℕ) → k < r → k < 8 → flat_at one t k ≡ flat_at one u k
  unfolding flat_at
  at_agree one k h g = rw (agree_p r t u k a h g, agree_q r t u k a h, agree_p r t u 0 a (omega arith) (omega arith), agree_q r t u 0 a (omega arith))

  pub flat_agree : (one : ℕ) → 4 ≤ r → flat_mask one t ≡ flat_mask one u
  unfolding flat_mask
  flat_agree one h = rw (at_agree one 1 (omega arith) (omega arith), at_agree one 2 (omega arith) (omega arith), at_agree one 3 (omega arith) (omega arith))

  pub flat2_agree : (one : ℕ) → 8 ≤ r → flat_mask2 one t ≡ flat_mask2 one u
  unfolding flat_mask2
  flat2_agree one h = rw (at_agree one 4 (omega arith) (omega arith), at_agree one 5 (omega arith) (omega arith), at_agree one 6 (omega arith) (omega arith), at_agree one 7 (omega arith) (omega arith))
