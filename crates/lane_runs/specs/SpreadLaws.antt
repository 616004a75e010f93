-- Laws of samples that are stored position by position, or tap by tap.
-- Assumes nothing.
use Rattle.std.specs.Prelude.{◌≡◌, refl, ◌≢◌, ◌⊎◌, true, List, ℕ, zero, suc, ◌+◌, ◌-◌, ◌*◌, ◌/◌, ◌%◌, ◌≤◌, ◌<◌, length, get_or, replicate}
use Rattle.std.proofs.Common.{sym, ap, ◌∙◌, ⊎_elim, arith}
use Rattle.std.proofs.Math.Decide.{dec_lt}
use Rattle.std.proofs.lemmas.List.{length-replicate}
use Rattle.base.specs.NotationLaws.{split}
use Rattle.lanes.specs.Lanes.{Table}
use Rattle.window.specs.Stencil.{scatter}
use Rattle.window.specs.StencilLaws.{scatter-length, scatter_other, scatter_at as stencil_at}
use Rattle.window.specs.WindowLaws.{row_unique}
use Rattle.lane_runs.specs.Spread.{place_of, PlacesApart, Spaced, Spread, SpacedRun, LaneRun, Loaded, Taken}

-- ---- places

-- rows at least as far apart as they are wide
digits_same : {S : ℕ} (q r p s : ℕ) → r < S → s < S → q * S + r ≡ p * S + s → (q ≡ p) × (r ≡ s)
digits_same {S} q r p s h g e =
    let same : q ≡ p = row_unique q p S r s h g e in
    (same, omega (arith, ap (λ (x : ℕ). x * S) same))

pub spaced_across : (at along n : ℕ) → 16 ≤ along → Spaced at 1 along n
spaced_across at along n h =
    record { apart = λ l k i j hl hk hi hj e. digits_same {S = along} l k i j (omega arith) (omega arith) (omega arith) }

pub rows_apart : (at step n m : ℕ) → n ≤ step → PlacesApart at step 1 n m
rows_apart at step n m h =
    record { apart = λ l k i j hl hk hi hj e. let (a, b) = digits_same {S = step} k l j i (omega arith) (omega arith) (omega arith) in (b, a) }

pub spaced_down : (at step n : ℕ) → n ≤ step → Spaced at step 1 n
spaced_down at step n h = rows_apart at step n 16 h

spaced_table : Spaced 0 16 1 16
spaced_table = spaced_down 0 16 16 (omega arith)

-- of two distances one of which is 1
pub side_by_side : {a b : ℕ} → (a ≡ 1) ⊎ (b ≡ 1) → (b ≡ 1 → ⊥) → a ≡ 1
side_by_side unit apart = ⊎_elim (λ e. e) (λ e. absurd (apart e)) unit

-- ---- stores at places of their own

pub scatter_at : (writes sample : ℕ → ℕ) (m : ℕ) (w : List ℕ) → ((i k : ℕ) → i < m → k < m → writes i ≡ writes k → i ≡ k) → (k : ℕ) → k < m → writes k < length w → get_or (scatter (λ i. true) writes sample m w) (writes k) 0 ≡ sample k
scatter_at writes sample m w inj k h b =
    stencil_at (λ i. true) writes sample m w k 0 h refl b (λ j g t e. inj k j h g e)

module _ (at step along N lo m : ℕ) (v : ℕ → ℕ → ℕ) (w : List ℕ) where
  pub spread_no_lanes : Spread at step along 0 lo m v w w
  spread_no_lanes = record { long = refl; done = λ l k a. absurd (omega arith); kept = λ j h. refl }

  pub spread_no_taps : (n : ℕ) → Spread at step along n lo 0 v w w
  spread_no_taps n = record { long = refl; done = λ l k a b d. absurd (omega arith); kept = λ j h. refl }

  -- a position more
  pub spread_lane : (n : ℕ) (u r : List ℕ) (writes sample : ℕ → ℕ) → Spaced at step along N → n < N → lo + m ≤ 16 → ((k : ℕ) → k < 16 → place_of at step along n k < length w)
      → ((k : ℕ) → k < m → writes k ≡ place_of at step along n (lo + k)) → ((k : ℕ) → k < m → sample k ≡ v n (lo + k)) → Spread at step along n lo m v w u → r ≡ scatter (λ k. true) writes sample m u → Spread at step along (n + 1) lo m v w r
  spread_lane n u r writes sample s few taps lent is-write is-sample inv made = rw made record {
    long = scatter-length (λ k. true) writes sample m u ∙ inv.long;
    done = λ l k a b d.
        ⊎_elim
        (λ (x : l < n).
        scatter_other (λ k. true) writes sample m u (place_of at step along l k) 0 (λ i g t e. omega (arith, (s.apart l k n (lo + i) (omega arith) (omega arith) few (omega arith) (e ∙ is-write i g)).0))
        ∙ inv.done l k x b d)
        (λ (x : n ≤ l). let y : l ≡ n = omega arith in rw y (last k b d))
        (split l n);
    kept = λ j h.
        scatter_other (λ k. true) writes sample m u j 0 (λ i g t e. h n (lo + i) (omega arith) (omega arith) (omega arith) (e ∙ is-write i g))
        ∙ inv.kept j (λ l k a. h l k (omega arith));
  }
    where
      inj : (i k : ℕ) → i < m → k < m → writes i ≡ writes k → i ≡ k
      inj i k a b e =
          omega (arith, (s.apart n (lo + i) n (lo + k) few (omega arith) few (omega arith) (sym (is-write i a) ∙ e ∙ is-write k b)).1)

      last : (k : ℕ) → lo ≤ k → k < lo + m → get_or (scatter (λ k. true) writes sample m u) (place_of at step along n k) 0 ≡ v n k
      last k b d =
          let y : lo + (k - lo) ≡ k = omega arith in
          let h : k - lo < m = omega arith in
          let place : writes (k - lo) ≡ place_of at step along n k = is-write (k - lo) h ∙ ap (place_of at step along n) y in
          ap (λ (i : ℕ). get_or (scatter (λ k. true) writes sample m u) i 0) (sym place)
          ∙ scatter_at writes sample m u inj (k - lo) h (omega (arith, lent k (omega arith), inv.long, place))
          ∙ is-sample (k - lo) h
          ∙ ap (v n) y

  -- a tap more
  pub spread-tap : (n : ℕ) (u r : List ℕ) (writes sample : ℕ → ℕ) {M : ℕ} → PlacesApart at step along N M → n ≤ N → lo + m < M → ((l : ℕ) → l < n → place_of at step along l (lo + m) < length w)
      → ((l : ℕ) → l < n → writes l ≡ place_of at step along l (lo + m)) → ((l : ℕ) → l < n → sample l ≡ v l (lo + m)) → Spread at step along n lo m v w u → r ≡ scatter (λ l. true) writes sample n u → Spread at step along n lo (m + 1) v w r
  spread-tap n u r writes sample s few taps lent is-write is-sample inv made = rw made record {
    long = scatter-length (λ k. true) writes sample n u ∙ inv.long;
    done = λ l k a b d.
        ⊎_elim
        (λ (x : k < lo + m).
        scatter_other (λ k. true) writes sample n u (place_of at step along l k) 0 (λ i g t e. omega (arith, (s.apart l k i (lo + m) (omega arith) (omega arith) (omega arith) (omega arith) (e ∙ is-write i g)).1))
        ∙ inv.done l k a b x)
        (λ (x : lo + m ≤ k). let y : k ≡ lo + m = omega arith in rw y (last l a))
        (split k (lo + m));
    kept = λ j h.
        scatter_other (λ k. true) writes sample n u j 0 (λ i g t e. h i (lo + m) g (omega arith) (omega arith) (e ∙ is-write i g))
        ∙ inv.kept j (λ l k a b d. h l k a b (omega arith));
  }
    where
      inj : (i k : ℕ) → i < n → k < n → writes i ≡ writes k → i ≡ k
      inj i k a b e =
          (s.apart i (lo + m) k (lo + m) (omega arith) taps (omega arith) taps (sym (is-write i a) ∙ e ∙ is-write k b)).0

      last : (l : ℕ) → l < n → get_or (scatter (λ k. true) writes sample n u) (place_of at step along l (lo + m)) 0 ≡ v l (lo + m)
      last l a =
          ap (λ (i : ℕ). get_or (scatter (λ k. true) writes sample n u) i 0) (sym (is-write l a))
          ∙ scatter_at writes sample n u inj l a (omega (arith, lent l a, inv.long, is-write l a))
          ∙ is-sample l a

-- ---- the table

module _ (at step along N lo m : ℕ) (w : List ℕ) where
  room : (l k : ℕ) → l < 16 → k < 16 → place_of 0 16 1 l k < length {A = ℕ} (replicate 256 0)
  room l k a b = omega (arith, length-replicate {A = ℕ} 256 0)

  pub loaded_lane : (n : ℕ) (t u : List ℕ) (reads : ℕ → ℕ) → SpacedRun at step along N w → n < N → lo + m ≤ 16 → ((k : ℕ) → k < m → reads k ≡ place_of at step along n (lo + k)) → Loaded at step along n lo m w t
      → u ≡ scatter (λ k. true) (λ k. 16 * (lo + k) + n) (λ k. get_or w (reads k) 0) m t → Loaded at step along (n + 1) lo m w u
  loaded_lane n t u reads r few taps is inv e =
      let le = r.few in
      spread_lane 0 16 1 16 lo m _ (replicate 256 0) n t u (λ k. 16 * (lo + k) + n) (λ k. get_or w (reads k) 0) spaced_table (omega arith) taps (λ k b. room n k (omega arith) b) (λ k b. omega arith) (λ k b. ap (λ (i : ℕ). get_or w i 0) (is k b)) inv e

pub spread-taken : {at step along n lo m : ℕ} {w t u : List ℕ} → Spread 0 16 1 n lo m (λ l k. get_or w (place_of at step along l k) 0) t u → Taken at step along n lo m w u
spread-taken {u = u} loaded = record { taken = λ l k a b d. ap (λ (i : ℕ). get_or u i 0) (omega arith) ∙ loaded.done l k a b d }

zeros_small : (n i : ℕ) → get_or (replicate n 0) i 0 < 4096
zeros_small zero i = omega arith
zeros_small (suc n) zero = omega arith
zeros_small (suc n) (suc i) = zeros_small n i

-- samples of 12 bits and zeros
pub loaded_table : {at step along n lo m : ℕ} {w t : List ℕ} → LaneRun at step along n w → lo + m ≤ 16 → Loaded at step along n lo m w t → Table t
loaded_table {at} {step} {along} {n} {lo} {m} {w} {t} r taps inv = record {
  long = inv.long ∙ length-replicate {A = ℕ} 256 0;
  small = λ i b. small i (dec_lt (i % 16) n) (dec_lt (i / 16) lo) (dec_lt (i / 16) (lo + m));
}
  where
    -- an entry that is no tap is 0
    other : (i : ℕ) → ((l k : ℕ) → l < n → lo ≤ k → k < lo + m → i ≢ place_of 0 16 1 l k) → get_or t i 0 < 4096
    other i h = rw (inv.kept i h) (zeros_small 256 i)

    small : (i : ℕ) → Dec (i % 16 < n) → Dec (i / 16 < lo) → Dec (i / 16 < lo + m) → get_or t i 0 < 4096
    small i (yes a) (no b) (yes d) =
        let place : i ≡ place_of 0 16 1 (i % 16) (i / 16) = omega arith in
        let is = ap (λ (j : ℕ). get_or t j 0) place ∙ inv.done (i % 16) (i / 16) a (omega arith) d in
        rw is (r.small (i % 16) (i / 16) a (omega arith))
    small i (no a) b d = other i (λ l k x y z e. omega (arith, r.run.few))
    small i (yes a) (yes b) d = other i (λ l k x y z e. omega (arith, r.run.few))
    small i (yes a) (no b) (no d) = other i (λ l k x y z e. omega (arith, r.run.few))
