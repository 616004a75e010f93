-- A row that is copied is stores at places of their own, one beside the other.
-- Assumes nothing.
use Rattle.std.specs.Prelude.{◌≡◌, true, List, ℕ, zero, suc, ◌++◌, ◌+◌, ◌-◌, ◌*◌, ◌≤◌, ◌<◌, length, get_or, set, take, drop}
use Rattle.std.proofs.Common.{sym, ap, ◌∙◌, add-one, arith, length-take-le, length-drop}
use Rattle.std.proofs.lemmas.List.{take-append-drop, set-append_right, get_or-drop}
use Rattle.base.specs.Copied.{copied, copied_more}
use Rattle.window.specs.Stencil.{scatter}
use Rattle.lane_runs.specs.RowCopies.{row_copied, rows_copied, RowsLent}
use Rattle.lane_runs.specs.Spread.{place_of, PlacesApart, Spread, SpacedRun}
use Rattle.lane_runs.specs.SpreadLaws.{rows_apart, spread_no_taps, spread-tap}

-- one sample more
pub row_more : {A : Type 0} (s : List A) (p n at : ℕ) (d : List A) (z : A) → p + n < length s → at + n < length d
    → set (row_copied s p n at d) (at + n) (get_or s (p + n) z) ≡ row_copied s p (n + 1) at d
row_more {A} s p n at d z h g =
    let front : length (take at d) ≡ at = length-take-le at d (omega arith) in
    set-append_right (take at d) (copied (drop p s) n (drop at d)) at (at + n) (get_or s (p + n) z) front (omega arith)
    ∙ ap (λ (x : List A). take at d ++ x) (rest (at + n - at) (omega arith))
  where
    rest : (i : ℕ) → i ≡ n → set (copied (drop p s) n (drop at d)) i (get_or s (p + n) z) ≡ copied (drop p s) (n + 1) (drop at d)
    rest i e =
        rw (e, ← get_or-drop p s n z)
        (copied_more (drop p s) (drop at d) n z (omega (arith, length-drop p s)) (omega (arith, length-drop at d)))

pub row_scattered : (s : List ℕ) (p n at : ℕ) (d : List ℕ) → p + n ≤ length s → at + n ≤ length d → row_copied s p n at d ≡ scatter (λ l. true) (λ l. at + l) (λ l. get_or s (p + l) 0) n d
unfolding scatter
row_scattered s p zero at d h g = take-append-drop at d
row_scattered s p (suc n) at d h g =
    sym (rw (add-one n) at (row_more s p n at d 0 (omega arith) (omega arith)))
    ∙ ap (λ (x : List ℕ). set x (at + n) (get_or s (p + n) 0)) (row_scattered s p n at d (omega arith) (omega arith))

-- one row more
pub rows_more : {A : Type 0} (s : List A) (p step at apart n lo k : ℕ) (d u r : List A) → lo ≤ k → u ≡ rows_copied s p step at apart n lo (k - lo) d → r ≡ row_copied s (p + k * step) n (at + k * apart) u
    → r ≡ rows_copied s p step at apart n lo (k + 1 - lo) d
unfolding rows_copied
rows_more s p step at apart n lo k d u r from inv made =
    let e : lo + (k - lo) ≡ k = omega arith in
    let f : k + 1 - lo ≡ suc (k - lo) = omega arith in
    rw (f, e, ← inv) made

-- rows are the samples of the other list, by row and place in it
pub rows_spread : (s : List ℕ) (p step at apart n lo m : ℕ) (d : List ℕ) → PlacesApart at apart 1 n (lo + m) → RowsLent at apart n lo m (length d) → RowsLent p step n lo m (length s)
    → Spread at apart 1 n lo m (λ l k. get_or s (place_of p step 1 l k) 0) d (rows_copied s p step at apart n lo m d)
unfolding rows_copied
rows_spread s p step at apart n lo zero d places room lent = spread_no_taps at apart 1 n lo 0 _ d n
rows_spread s p step at apart n lo (suc m) d places room lent =
    let before = rows_spread s p step at apart n lo m d fewer (record { lent = λ k a b. room.lent k a (omega arith) }) (record { lent = λ k a b. lent.lent k a (omega arith) }) in
    let here : at + (lo + m) * apart + n ≤ length d = room.lent (lo + m) (omega arith) (omega arith) in
    let there : p + (lo + m) * step + n ≤ length s = lent.lent (lo + m) (omega arith) (omega arith) in
    rw (← add-one m)
    (spread-tap at apart 1 n lo m (λ l k. get_or s (place_of p step 1 l k) 0) d n (rows_copied s p step at apart n lo m d) _ (λ l. at + (lo + m) * apart + l) (λ l. get_or s (p + (lo + m) * step + l) 0) places (omega arith) (omega arith)
    (λ l b. omega arith)
    (λ l b. omega arith)
    (λ l b. ap (λ (i : ℕ). get_or s i 0) (omega arith))
    before
    (row_scattered s (p + (lo + m) * step) n (at + (lo + m) * apart) (rows_copied s p step at apart n lo m d) there (omega (arith, before.long))))
  where
    fewer : PlacesApart at apart 1 n (lo + m)
    fewer = record { apart = λ l k i j hl hk hi hj e. places.apart l k i j hl (omega arith) hi (omega arith) e }

-- ---- between a run whose lines stand side by side and the table

module _ {at step n : ℕ} {w : List ℕ} (run : SpacedRun at step 1 n w) where
  pub run_apart : (m : ℕ) → m ≤ 16 → PlacesApart at step 1 n m
  run_apart m few =
      record { apart = λ l k i j hl hk hi hj e. run.spaced.apart l k i j hl (omega arith) hi (omega arith) e }

  pub run_rows : 0 < n → (lo m : ℕ) → lo + m ≤ 16 → RowsLent at step n lo m (length w)
  run_rows some lo m few = record { lent = λ k a b. omega (arith, run.lent (n - 1) k (omega arith) (omega arith)) }

  pub table_rows : (t : List ℕ) → length t ≡ 256 → (lo m : ℕ) → lo + m ≤ 16 → RowsLent 0 16 n lo m (length t)
  table_rows t long lo m few = let narrow = run.few in record { lent = λ k a b. omega arith }

  pub rows_loaded : 0 < n → (lo m : ℕ) → lo + m ≤ 16 → (t : List ℕ) → length t ≡ 256 → Spread 0 16 1 n lo m (λ l k. get_or w (place_of at step 1 l k) 0) t (rows_copied w at step 0 16 n lo m t)
  rows_loaded some lo m few t long =
      rows_spread w at step 0 16 n lo m t (rows_apart 0 16 n (lo + m) run.few) (table_rows t long lo m few) (run_rows some lo m few)

  pub rows_stored : 0 < n → (lo m : ℕ) → lo + m ≤ 16 → (t : List ℕ) → length t ≡ 256 → Spread at step 1 n lo m (λ l k. get_or t (16 * k + l) 0) w (rows_copied t 0 16 at step n lo m w)
  rows_stored some lo m few t long =
      let stored = rows_spread t 0 16 at step n lo m w (run_apart (lo + m) few) (run_rows some lo m few) (table_rows t long lo m few) in
      record { long = stored.long; done = λ l k a b d. stored.done l k a b d ∙ ap (λ (i : ℕ). get_or t i 0) (omega arith); kept = stored.kept }
