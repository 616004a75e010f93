-- The sides of a lane, each counted from the edge.
-- Assumes nothing.
use Rattle.std.specs.Prelude.{[], ◌∷◌, ℕ, ◌+◌, ◌<◌}
use Rattle.std.proofs.Common.{arith}
use Rattle.lane.specs.LaneSamples.{samples_of}
use Rattle.lane.specs.declared.Lane.{Lane}
use Rattle.wide_filter.specs.Taps.{Within}
use Rattle.wide_filter.specs.WideSums.{AtMost, most_none, most_next}

module _ (b : ℕ) (a : Lane ℕ) (w : Within (b + 1) (samples_of a)) where
  pub p_four : AtMost b (a.p0 ∷ a.p1 ∷ a.p2 ∷ a.p3 ∷ [])
  p_four =
      most_next (w.below 7 (omega arith)) (most_next (w.below 6 (omega arith)) (most_next (w.below 5 (omega arith)) (most_next (w.below 4 (omega arith)) most_none)))

  pub q_four : AtMost b (a.q0 ∷ a.q1 ∷ a.q2 ∷ a.q3 ∷ [])
  q_four =
      most_next (w.below 8 (omega arith)) (most_next (w.below 9 (omega arith)) (most_next (w.below 10 (omega arith)) (most_next (w.below 11 (omega arith)) most_none)))

  pub p_eight : AtMost b (a.p0 ∷ a.p1 ∷ a.p2 ∷ a.p3 ∷ a.p4 ∷ a.p5 ∷ a.p6 ∷ a.p7 ∷ [])
  p_eight =
      most_next (w.below 7 (omega arith)) (most_next (w.below 6 (omega arith)) (most_next (w.below 5 (omega arith)) (most_next (w.below 4 (omega arith)) (most_next (w.below 3 (omega arith)) (most_next (w.below 2 (omega arith)) (most_next (w.below 1 (omega arith)) (most_next (w.below 0 (omega arith)) most_none)))))))

  pub q_eight : AtMost b (a.q0 ∷ a.q1 ∷ a.q2 ∷ a.q3 ∷ a.q4 ∷ a.q5 ∷ a.q6 ∷ a.q7 ∷ [])
  q_eight =
      most_next (w.below 8 (omega arith)) (most_next (w.below 9 (omega arith)) (most_next (w.below 10 (omega arith)) (most_next (w.below 11 (omega arith)) (most_next (w.below 12 (omega arith)) (most_next (w.below 13 (omega arith)) (most_next (w.below 14 (omega arith)) (most_next (w.below 15 (omega arith)) most_none)))))))

-- a lane whose samples are each below a number
pub lane_within : (b : ℕ) (a : Lane ℕ) → a.p7 < b + 1 → a.p6 < b + 1 → a.p5 < b + 1 → a.p4 < b + 1 → a.p3 < b + 1 → a.p2 < b + 1 → a.p1 < b + 1 → a.p0 < b + 1 → a.q0 < b + 1 → a.q1 < b + 1 → a.q2 < b + 1 → a.q3 < b + 1 → a.q4 < b + 1 → a.q5 < b + 1 → a.q6 < b + 1 → a.q7 < b + 1 → Within (b + 1) (samples_of a)
lane_within b a p7 p6 p5 p4 p3 p2 p1 p0 q0 q1 q2 q3 q4 q5 q6 q7 =
    let all : AtMost b (samples_of a) = most_next p7 (most_next p6 (most_next p5 (most_next p4 (most_next p3 (most_next p2 (most_next p1 (most_next p0 (most_next q0 (most_next q1 (most_next q2 (most_next q3 (most_next q4 (most_next q5 (most_next q6 (most_next q7 most_none))))))))))))))) in
    record { below = λ k h. omega (arith, all.most k) }
