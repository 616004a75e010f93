-- A run in lanes is the run position by position.
-- Assumes nothing.
use Rattle.std.specs.Prelude.{◌≡◌, ◌⊎◌, List, ℕ, ◌+◌, ◌-◌, ◌*◌, ◌≤◌, ◌<◌, get_or}
use Rattle.std.proofs.Common.{sym, ap, ◌∙◌, inl, inr, ⊎_elim, zero-add, arith}
use Rattle.std.proofs.Math.Decide.{dec_lt}
use Rattle.lanes.specs.Lanes.{lane_of, EachLane, Lanes}
use Rattle.lanes.specs.LanesLaws.{lane_length, lane_tap}
use Rattle.line.specs.SampleFiltering.{sample_filtering}
use Rattle.line.specs.SampleFilteringLaws.{changes, reads, changes-read, reads_few}
use Rattle.wide_filter.specs.Taps.{tap}
use Rattle.window.specs.InsideRun.{plain_lines, plain_run}
use Rattle.window.specs.Stencil.{taps, in_turn}
use Rattle.window.specs.StencilLaws.{gather_at, gather-length}
use Rattle.lane_runs.specs.Spread.{place_of, Spread, SpacedRun, Loaded, Taken}
use Rattle.lane_runs.specs.SpreadLaws.{spread_no_taps, spread-taken}
use Rattle.lane_runs.specs.Local.{Local, local_wider, sample_local}
use Rattle.lane_runs.specs.PlainRunLaws.{spread_run}

-- ---- each lane by a line filter of its own

-- the taps that are stored are those that changed
module _ (f : ℕ → List ℕ → List ℕ) (r c : ℕ) (within : c ≤ r) (all : r ≤ 8) (at step along n : ℕ) (local : (l : ℕ) → l < n → Local r r (f l)) (w t t' : List ℕ)
    (run : SpacedRun at step along n w) (loaded : Taken at step along n (8 - r) (2 * r) w t) (lanes : EachLane n f t t')
    (same : (l k : ℕ) → l < n → k < 16 → (k + c < 8) ⊎ (8 + c ≤ k) → tap (lane_of t' l) k ≡ tap (lane_of t l) k) where
  abbrev line : ℕ → List ℕ
  line l = taps (plain_lines at step along f l) w

  line-tap : (l k : ℕ) → k < 16 → tap (line l) k ≡ get_or w (place_of at step along l k) 0
  line-tap l k b =
      gather_at (λ k. place_of at step along l k) 0 16 w k b ∙ ap (λ (i : ℕ). get_or w (place_of at step along l i) 0) (zero-add k)

  -- the lane has the line's samples where they are read
  loaded_tap : (l k : ℕ) → l < n → 8 ≤ k + r → k < 8 + r → tap (lane_of t l) k ≡ tap (line l) k
  loaded_tap l k a p q =
      lane_tap t l k (omega arith) ∙ loaded.taken l k a (omega arith) (omega arith) ∙ sym (line-tap l k (omega arith))

  filtered-tap : (l k : ℕ) → l < n → 8 ≤ k + r → k < 8 + r → tap (lane_of t' l) k ≡ tap (f l (line l)) k
  filtered-tap l k a p q =
      ap (λ (x : List ℕ). tap x k) (lanes.each l a)
      ∙ ((local l a).agree (lane_of t l) (line l) (lane_length t l) (gather-length (λ k. place_of at step along l k) 0 16 w) (record { same = λ k p q. loaded_tap l k a p q })).same k p q

  kept_tap : (l k : ℕ) → l < n → k < 16 → (k + c < 8) ⊎ (8 + c ≤ k) → Dec (k + r < 8) → Dec (k < 8 + r) → tap (f l (line l)) k ≡ tap (line l) k
  kept_tap l k a b o (yes p) q = (local l a).kept (line l) k b (inl p)
  kept_tap l k a b o (no p) (no q) = (local l a).kept (line l) k b (inr (omega arith))
  kept_tap l k a b o (no p) (yes q) =
      sym (filtered-tap l k a (omega arith) q) ∙ same l k a b o ∙ loaded_tap l k a (omega arith) q

  pub each_lane_stored : (u : List ℕ) → Spread at step along n (8 - c) (2 * c) (λ l k. tap t' (16 * k + l)) w u → u ≡ in_turn (plain_lines at step along f) n w
  each_lane_stored u stored =
      spread_run f at step along n w run.spaced run.lent (8 - c) (2 * c) (λ l k. tap t' (16 * k + l)) u (omega arith)
      (λ l k a b d. sym (lane_tap t' l k (omega arith)) ∙ filtered-tap l k a (omega arith) (omega arith))
      (λ l k a b o. kept_tap l k a b (⊎_elim (λ p. inl (omega arith)) (λ p. inr (omega arith)) o) (dec_lt (k + r) 8) (dec_lt k (8 + r)) ∙ line-tap l k b)
      stored

-- the taps that are stored are those that the filters can change
module _ (f : ℕ → List ℕ → List ℕ) (r c : ℕ) (within : c ≤ r) (all : r ≤ 8) (at step along n : ℕ) (local : (l : ℕ) → l < n → Local r c (f l)) (w t t' : List ℕ)
    (run : SpacedRun at step along n w) (loaded : Taken at step along n (8 - r) (2 * r) w t) (lanes : EachLane n f t t') where
  wider : (l : ℕ) → l < n → Local r r (f l)
  wider l a = local_wider within (omega arith) within all (local l a)

  pub each_lane_run : (u : List ℕ) → Spread at step along n (8 - c) (2 * c) (λ l k. tap t' (16 * k + l)) w u → u ≡ in_turn (plain_lines at step along f) n w
  each_lane_run u stored =
      each_lane_stored f r c within all at step along n wider w t t' run loaded lanes
      (λ l k a b o. ap (λ (x : List ℕ). tap x k) (lanes.each l a) ∙ (local l a).kept (lane_of t l) k b o)
      u
      stored

  -- where no lane changes nothing need be stored
  pub each_lane_kept : t' ≡ t → w ≡ in_turn (plain_lines at step along f) n w
  each_lane_kept e =
      each_lane_stored f r 0 (omega arith) all at step along n wider w t t' run loaded lanes (λ l k a b o. rw e) w (spread_no_taps at step along n 8 0 _ w n)

-- ---- all lanes by one

-- the first tap that is read, or can change
abbrev pub first_read : ℕ → ℕ
first_read size = 8 - reads size

abbrev pub first_changed : ℕ → ℕ
first_changed size = 8 - changes size

module _ (B size limit blimit thresh at step along n : ℕ) (w t t' : List ℕ) (run : SpacedRun at step along n w) (loaded : Loaded at step along n (first_read size) (2 * reads size) w t)
    (lanes : Lanes n (sample_filtering B size limit blimit thresh) t t') where
  abbrev f_of : List ℕ → List ℕ
  f_of = sample_filtering B size limit blimit thresh

  pub lanes_run : (u : List ℕ) → Spread at step along n (first_changed size) (2 * changes size) (λ l k. tap t' (16 * k + l)) w u → u ≡ in_turn (plain_run at step along f_of) n w
  lanes_run u stored =
      each_lane_run (λ _. f_of) (reads size) (changes size) (changes-read size) (reads_few size) at step along n (λ l a. sample_local B size limit blimit thresh) w t t' run (spread-taken loaded) lanes u stored

  pub lanes_kept : t' ≡ t → w ≡ in_turn (plain_run at step along f_of) n w
  lanes_kept e =
      each_lane_kept (λ _. f_of) (reads size) (changes size) (changes-read size) (reads_few size) at step along n (λ l a. sample_local B size limit blimit thresh) w t t' run (spread-taken loaded) lanes e
