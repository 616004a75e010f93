-- Lanes: 16 lines side by side in a list of 256, tap k of lane l at place 16 k + l.
-- Assumes nothing.
use Rattle.std.specs.Prelude.{◌≡◌, false, List, [], ◌∷◌, ℕ, ◌+◌, ◌*◌, ◌<◌, ◌≤◌, length, get_or, map, set}
use Rattle.base.specs.Depth.{scaled}
use Rattle.lane.specs.LaneSamples.{samples_of, values_of, put_taps}
use Rattle.lane.specs.declared.Lane.{Lane}
use Rattle.line.specs.Masks.{filter_mask}
use Rattle.wide_filter.specs.Taps.{tap}

-- the 16 samples of lane l, by their names and as a line
abbrev pub lane_at : (t : List ℕ) (l : ℕ) → Lane ℕ
lane_at t l =
    record { p7 = tap t l; p6 = tap t (16 + l); p5 = tap t (32 + l); p4 = tap t (48 + l); p3 = tap t (64 + l); p2 = tap t (80 + l); p1 = tap t (96 + l); p0 = tap t (112 + l); q0 = tap t (128 + l); q1 = tap t (144 + l); q2 = tap t (160 + l); q3 = tap t (176 + l); q4 = tap t (192 + l); q5 = tap t (208 + l); q6 = tap t (224 + l); q7 = tap t (240 + l) }

-- the same of any samples, where each place has one: a is what is read
abbrev pub lane_in : {T : Type 0} (t : List T) (l : ℕ) (a : Lane T) → Lane T
lane_in t l a =
    record { p7 = get_or t l a.p7; p6 = get_or t (16 + l) a.p6; p5 = get_or t (32 + l) a.p5; p4 = get_or t (48 + l) a.p4; p3 = get_or t (64 + l) a.p3; p2 = get_or t (80 + l) a.p2; p1 = get_or t (96 + l) a.p1; p0 = get_or t (112 + l) a.p0; q0 = get_or t (128 + l) a.q0; q1 = get_or t (144 + l) a.q1; q2 = get_or t (160 + l) a.q2; q3 = get_or t (176 + l) a.q3; q4 = get_or t (192 + l) a.q4; q5 = get_or t (208 + l) a.q5; q6 = get_or t (224 + l) a.q6; q7 = get_or t (240 + l) a.q7 }

unfoldable pub lane_of : (t : List ℕ) (l : ℕ) → List ℕ
lane_of t l = samples_of (lane_at t l)

-- the list with the samples vs stored in lane l from tap k on
abbrev pub put_lane : {T : Type 0} (t : List T) (l k : ℕ) (vs : List T) → List T
put_lane t l k [] = t
put_lane t l k (v ∷ vs) = put_lane (set t (16 * k + l) v) l (k + 1) vs

-- 16 lanes whose samples 12 bits hold, those of idle lanes too
pub record Table (t : List ℕ) : Type 0 where
  pub long : length t ≡ 256
  pub small : (i : ℕ) → i < 256 → tap t i < 4096

-- of the lists t before and u after: each lane l of the first n is f l of what it was
pub record EachLane (n : ℕ) (f : ℕ → List ℕ → List ℕ) (t u : List ℕ) : Type 0 where
  pub each : (l : ℕ) → l < n → lane_of u l ≡ f l (lane_of t l)

-- the first m lanes are so, and the others are kept
pub record EachLaneTo (m : ℕ) (f : ℕ → List ℕ → List ℕ) (t u : List ℕ) : Type 0 where
  pub done : (l : ℕ) → l < m → lane_of u l ≡ f l (lane_of t l)
  pub rest : (l : ℕ) → m ≤ l → l < 16 → lane_of u l ≡ lane_of t l

-- the same by one f for all lanes
abbrev pub Lanes : (n : ℕ) (f : List ℕ → List ℕ) (t u : List ℕ) → Type 0
Lanes n f t u = EachLane n (λ _. f) t u

abbrev pub LanesTo : (m : ℕ) (f : List ℕ → List ℕ) (t u : List ℕ) → Type 0
LanesTo m f t u = EachLaneTo m (λ _. f) t u

-- the filter mask is off in those of the first m lanes that are below n
pub record NoneTo (m n depth limit blimit : ℕ) (t : List ℕ) : Type 0 where
  pub none : (l : ℕ) → l < m → l < n → filter_mask (scaled depth limit) (scaled depth blimit) (lane_of t l) ≡ false

-- what a filter may give of lane l of the table t, for each l below n, is what line makes of that lane's samples
pub record Follows {T R : Type 0} (value : T → ℕ) (first : ℕ) (taps : R → List T) (gives : Lane T → ℕ → R → Type 0) (n : ℕ) (t : List ℕ) (line : ℕ → List ℕ → List ℕ) : Type 0 where
  pub each : (l : ℕ) (a : Lane T) (r : R) → l < n → values_of value a ≡ lane_of t l → gives a l r → put_taps (values_of value a) first (map value (taps r)) ≡ line l (values_of value a)
