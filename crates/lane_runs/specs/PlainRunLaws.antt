-- What a run whose positions share no samples leaves, sample by sample.
-- Assumes nothing.
use Rattle.std.specs.Prelude.{◌≡◌, refl, ◌≢◌, ◌⊎◌, List, ℕ, zero, suc, ◌+◌, ◌≤◌, ◌<◌, length, get_or}
use Rattle.std.proofs.Common.{sym, ap, ◌∙◌, inl, inr, ⊎_elim, arith, ext_get_or}
use Rattle.std.proofs.lemmas.Bool.{cases_eq}
use Rattle.base.specs.NotationLaws.{split}
use Rattle.window.specs.InsideRun.{plain_lines}
use Rattle.window.specs.Stencil.{taps, applied, in_turn}
use Rattle.window.specs.StencilLaws.{gather_kept, applied_other, in_turn-length}
use Rattle.lane_runs.specs.Spread.{place_of, Spaced, Spread}
use Rattle.lane_runs.specs.SpreadLaws.{scatter_at}

module _ (f : ℕ → List ℕ → List ℕ) (at step along N : ℕ) (w : List ℕ) (s : Spaced at step along N) (lent : (l k : ℕ) → l < N → k < 16 → place_of at step along l k < length w) where
  -- a sample that is no tap of the first n positions
  in_turn_other : (n : ℕ) (j : ℕ) → ((l k : ℕ) → l < n → k < 16 → j ≢ place_of at step along l k) → get_or (in_turn (plain_lines at step along f) n w) j 0 ≡ get_or w j 0
  unfolding in_turn
  in_turn_other zero j h = refl
  in_turn_other (suc n) j h =
      applied_other (plain_lines at step along f n) (in_turn (plain_lines at step along f) n w) j 0 (λ k b t. h n k (omega arith) b)
      ∙ in_turn_other n j (λ l k a. h l k (omega arith))

  -- a position reads what it would read at first
  in_turn_taps : (n : ℕ) → n < N → taps (plain_lines at step along f n) (in_turn (plain_lines at step along f) n w) ≡ taps (plain_lines at step along f n) w
  in_turn_taps n h =
      gather_kept (λ k. place_of at step along n k) 0 16 (in_turn (plain_lines at step along f) n w) w
      (λ k b. in_turn_other n (place_of at step along n k) (λ l i a d e. omega (arith, (s.apart n k l i h (omega arith) (omega arith) d e).0)))

  in_turn_at : (n : ℕ) → n ≤ N → (l k : ℕ) → l < n → k < 16 → get_or (in_turn (plain_lines at step along f) n w) (place_of at step along l k) 0 ≡ get_or (f l (taps (plain_lines at step along f l) w)) k 0
  unfolding in_turn applied
  in_turn_at zero h l k a b = absurd (omega arith)
  in_turn_at (suc n) h l k a b =
      ⊎_elim
      (λ (x : l < n).
      applied_other (plain_lines at step along f n) (in_turn (plain_lines at step along f) n w) (place_of at step along l k) 0 (λ i d t e. omega (arith, (s.apart l k n i (omega arith) b (omega arith) d e).0))
      ∙ in_turn_at n (omega arith) l k x b)
      (λ (x : n ≤ l). let y : l ≡ n = omega arith in rw y last)
      (split l n)
    where
      last : get_or (applied (plain_lines at step along f n) (in_turn (plain_lines at step along f) n w)) (place_of at step along n k) 0 ≡ get_or (f n (taps (plain_lines at step along f n) w)) k 0
      last =
          scatter_at (λ i. place_of at step along n i) (λ i. get_or (f n (taps (plain_lines at step along f n) (in_turn (plain_lines at step along f) n w))) i 0) 16 (in_turn (plain_lines at step along f) n w)
          (λ i j p q e. (s.apart n i n j (omega arith) p (omega arith) q e).1)
          k
          b
          (omega (arith, lent n k (omega arith) b, in_turn-length (plain_lines at step along f) n w))
          ∙ ap (λ (t : List ℕ). get_or (f n t) k 0) (in_turn_taps n (omega arith))

  -- ---- whether a sample is a tap

  record Hit (n j : ℕ) : Type 0 where
    position : ℕ
    number : ℕ
    below : position < n
    few : number < 16
    is : j ≡ place_of at step along position number

  tap_search : (l j m : ℕ) → m ≤ 16 → Hit (suc l) j ⊎ ((k : ℕ) → k < m → j ≢ place_of at step along l k)
  tap_search l j zero h = inr (λ k b. absurd (omega arith))
  tap_search l j (suc m) h =
      ⊎_elim
      (λ e. inl (record { position = l; number = m; below = omega arith; few = omega arith; is = e }))
      (λ d.
      ⊎_elim
      (λ hit. inl hit)
      (λ none. inr (λ k b. ⊎_elim (λ (x : k < m). none k x) (λ (x : m ≤ k). let y : k ≡ m = omega arith in rw y d) (split k m)))
      (tap_search l j m (omega arith)))
      (cases_eq j (place_of at step along l m))

  search_taps : (n j : ℕ) → Hit n j ⊎ ((l k : ℕ) → l < n → k < 16 → j ≢ place_of at step along l k)
  search_taps zero j = inr (λ l k a. absurd (omega arith))
  search_taps (suc n) j =
      ⊎_elim
      (λ hit. inl hit)
      (λ own.
      ⊎_elim
      (λ hit. inl (record { position = hit.position; number = hit.number; below = omega (arith, hit.below); few = hit.few; is = hit.is }))
      (λ none. inr (λ l k a. ⊎_elim (λ (x : l < n). none l k x) (λ (x : n ≤ l). let y : l ≡ n = omega arith in rw y (own k)) (split l n)))
      (search_taps n j))
      (tap_search n j 16 (omega arith))

  -- a list that has the filter's samples at the taps that can change, and else is as before, is what the run leaves
  pub spread_run : (lo m : ℕ) (v : ℕ → ℕ → ℕ) (u : List ℕ) → lo + m ≤ 16
      → ((l k : ℕ) → l < N → lo ≤ k → k < lo + m → v l k ≡ get_or (f l (taps (plain_lines at step along f l) w)) k 0)
      → ((l k : ℕ) → l < N → k < 16 → (k < lo) ⊎ (lo + m ≤ k) → get_or (f l (taps (plain_lines at step along f l) w)) k 0 ≡ get_or w (place_of at step along l k) 0)
      → Spread at step along N lo m v w u → u ≡ in_turn (plain_lines at step along f) N w
  spread_run lo m v u h changed kept inv =
      ext_get_or 0 u (in_turn (plain_lines at step along f) N w) (inv.long ∙ sym (in_turn-length (plain_lines at step along f) N w))
      (λ j b. ⊎_elim (λ hit. rw hit.is (tapped hit.position hit.number hit.below hit.few)) (λ none. other j none) (search_taps N j))
    where
      outside : (l k : ℕ) → l < N → k < 16 → (k < lo) ⊎ (lo + m ≤ k) → get_or u (place_of at step along l k) 0 ≡ get_or (in_turn (plain_lines at step along f) N w) (place_of at step along l k) 0
      outside l k a b o =
          inv.kept (place_of at step along l k) (λ i j p q r e. let d = (s.apart l k i j a b p (omega arith) e).1 in ⊎_elim (λ (x : k < lo). omega arith) (λ (x : lo + m ≤ k). omega arith) o)
          ∙ sym (kept l k a b o)
          ∙ sym (in_turn_at N (omega arith) l k a b)

      tapped : (l k : ℕ) → l < N → k < 16 → get_or u (place_of at step along l k) 0 ≡ get_or (in_turn (plain_lines at step along f) N w) (place_of at step along l k) 0
      tapped l k a b =
          ⊎_elim
          (λ (x : k < lo). outside l k a b (inl x))
          (λ (x : lo ≤ k).
          ⊎_elim
          (λ (y : k < lo + m). inv.done l k a x y ∙ changed l k a x y ∙ sym (in_turn_at N (omega arith) l k a b))
          (λ (y : lo + m ≤ k). outside l k a b (inr y))
          (split k (lo + m)))
          (split k lo)

      other : (j : ℕ) → ((l k : ℕ) → l < N → k < 16 → j ≢ place_of at step along l k) → get_or u j 0 ≡ get_or (in_turn (plain_lines at step along f) N w) j 0
      other j none =
          inv.kept j (λ l k a b d. none l k a (omega arith)) ∙ sym (in_turn_other N j none)
