-- The sums that the wide filter forms are the smoothed taps.
-- Assumes nothing.
use Rattle.std.specs.Prelude.{◌≡◌, List, ℕ, set}
use Rattle.base.specs.Filled.{filled}
use Rattle.wide_filter.specs.Taps.{p, q}
use Rattle.wide_filter.specs.WideFilter.{wide_filter}
use Rattle.wide_filter.specs.WideSums.{fourteen, fourteen_sums, six, six_sums}

-- the six samples, stored in turn
pub wide_six : (t : List ℕ) (a2 a1 a0 b0 b1 b2 : ℕ) → a2 ≡ six (p t 3) (p t 2) (p t 1) (p t 0) (q t 0) (q t 1) (q t 2) 2 → a1 ≡ six (p t 3) (p t 2) (p t 1) (p t 0) (q t 0) (q t 1) (q t 2) 1 → a0 ≡ six (p t 3) (p t 2) (p t 1) (p t 0) (q t 0) (q t 1) (q t 2) 0 → b0 ≡ six (q t 3) (q t 2) (q t 1) (q t 0) (p t 0) (p t 1) (p t 2) 0 → b1 ≡ six (q t 3) (q t 2) (q t 1) (q t 0) (p t 0) (p t 1) (p t 2) 1 → b2 ≡ six (q t 3) (q t 2) (q t 1) (q t 0) (p t 0) (p t 1) (p t 2) 2 → set (set (set (set (set (set t 5 a2) 6 a1) 7 a0) 8 b0) 9 b1) 10 b2 ≡ wide_filter 3 t
unfolding wide_filter filled
wide_six t a2 a1 a0 b0 b1 b2 ea2 ea1 ea0 eb0 eb1 eb2 = let (sa2, sa1, sa0, sb0, sb1, sb2) = six_sums t in rw (ea2, ea1, ea0, eb0, eb1, eb2, sa2, sa1, sa0, sb0, sb1, sb2)

-- the fourteen samples, stored in turn
pub wide_fourteen : (t : List ℕ) (a6 a5 a4 a3 a2 a1 a0 b0 b1 b2 b3 b4 b5 b6 : ℕ) → a6 ≡ fourteen (p t 7) (p t 6) (p t 5) (p t 4) (p t 3) (p t 2) (p t 1) (p t 0) (q t 0) (q t 1) (q t 2) (q t 3) (q t 4) (q t 5) (q t 6) 6 → a5 ≡ fourteen (p t 7) (p t 6) (p t 5) (p t 4) (p t 3) (p t 2) (p t 1) (p t 0) (q t 0) (q t 1) (q t 2) (q t 3) (q t 4) (q t 5) (q t 6) 5 → a4 ≡ fourteen (p t 7) (p t 6) (p t 5) (p t 4) (p t 3) (p t 2) (p t 1) (p t 0) (q t 0) (q t 1) (q t 2) (q t 3) (q t 4) (q t 5) (q t 6) 4 → a3 ≡ fourteen (p t 7) (p t 6) (p t 5) (p t 4) (p t 3) (p t 2) (p t 1) (p t 0) (q t 0) (q t 1) (q t 2) (q t 3) (q t 4) (q t 5) (q t 6) 3 → a2 ≡ fourteen (p t 7) (p t 6) (p t 5) (p t 4) (p t 3) (p t 2) (p t 1) (p t 0) (q t 0) (q t 1) (q t 2) (q t 3) (q t 4) (q t 5) (q t 6) 2 → a1 ≡ fourteen (p t 7) (p t 6) (p t 5) (p t 4) (p t 3) (p t 2) (p t 1) (p t 0) (q t 0) (q t 1) (q t 2) (q t 3) (q t 4) (q t 5) (q t 6) 1 → a0 ≡ fourteen (p t 7) (p t 6) (p t 5) (p t 4) (p t 3) (p t 2) (p t 1) (p t 0) (q t 0) (q t 1) (q t 2) (q t 3) (q t 4) (q t 5) (q t 6) 0 → b0 ≡ fourteen (q t 7) (q t 6) (q t 5) (q t 4) (q t 3) (q t 2) (q t 1) (q t 0) (p t 0) (p t 1) (p t 2) (p t 3) (p t 4) (p t 5) (p t 6) 0 → b1 ≡ fourteen (q t 7) (q t 6) (q t 5) (q t 4) (q t 3) (q t 2) (q t 1) (q t 0) (p t 0) (p t 1) (p t 2) (p t 3) (p t 4) (p t 5) (p t 6) 1 → b2 ≡ fourteen (q t 7) (q t 6) (q t 5) (q t 4) (q t 3) (q t 2) (q t 1) (q t 0) (p t 0) (p t 1) (p t 2) (p t 3) (p t 4) (p t 5) (p t 6) 2 → b3 ≡ fourteen (q t 7) (q t 6) (q t 5) (q t 4) (q t 3) (q t 2) (q t 1) (q t 0) (p t 0) (p t 1) (p t 2) (p t 3) (p t 4) (p t 5) (p t 6) 3 → b4 ≡ fourteen (q t 7) (q t 6) (q t 5) (q t 4) (q t 3) (q t 2) (q t 1) (q t 0) (p t 0) (p t 1) (p t 2) (p t 3) (p t 4) (p t 5) (p t 6) 4 → b5 ≡ fourteen (q t 7) (q t 6) (q t 5) (q t 4) (q t 3) (q t 2) (q t 1) (q t 0) (p t 0) (p t 1) (p t 2) (p t 3) (p t 4) (p t 5) (p t 6) 5 → b6 ≡ fourteen (q t 7) (q t 6) (q t 5) (q t 4) (q t 3) (q t 2) (q t 1) (q t 0) (p t 0) (p t 1) (p t 2) (p t 3) (p t 4) (p t 5) (p t 6) 6 → set (set (set (set (set (set (set (set (set (set (set (set (set (set t 1 a6) 2 a5) 3 a4) 4 a3) 5 a2) 6 a1) 7 a0) 8 b0) 9 b1) 10 b2) 11 b3) 12 b4) 13 b5) 14 b6 ≡ wide_filter 4 t
unfolding wide_filter filled
wide_fourteen t a6 a5 a4 a3 a2 a1 a0 b0 b1 b2 b3 b4 b5 b6 ea6 ea5 ea4 ea3 ea2 ea1 ea0 eb0 eb1 eb2 eb3 eb4 eb5 eb6 = let (sa6, sa5, sa4, sa3, sa2, sa1, sa0, sb0, sb1, sb2, sb3, sb4, sb5, sb6) = fourteen_sums t in rw (ea6, ea5, ea4, ea3, ea2, ea1, ea0, eb0, eb1, eb2, eb3, eb4, eb5, eb6, sa6, sa5, sa4, sa3, sa2, sa1, sa0, sb0, sb1, sb2, sb3, sb4, sb5, sb6)
