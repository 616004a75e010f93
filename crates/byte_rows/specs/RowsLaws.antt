-- Laws of the rows that are moved between a list and a table.
-- Assumes nothing.
use Rattle.std.specs.Prelude.{◌≡◌, List, ℕ, ◌+◌, ◌-◌, ◌*◌, ◌≤◌, ◌<◌, length, get_or}
use Rattle.std.proofs.Common.{ap, ◌∙◌, mul-le-mul_right, arith}
use Rattle.lane_runs.specs.Spread.{place_of, PlacesApart, Spread, SpacedRun, Taken}
use Rattle.lane_runs.specs.RowCopies.{rows_copied, RowsLent}
use Rattle.lane_runs.specs.RowCopiesLaws.{rows_spread}
use Rattle.lane_runs.specs.SpreadLaws.{rows_apart}
use Rattle.byte_rows.specs.Turn.{Turned}

-- positions are rows, of the m taps from lo on, the first of which is at the place p
module _ (at along n lo m p : ℕ) (few : lo + m ≤ 16) (start : p ≡ at + lo) where
  pub across_rows : {w : List ℕ} → SpacedRun at 1 along n w → 0 < m → RowsLent p along m 0 n (length w)
  across_rows run some = record {
    lent = λ j a b. omega (arith, run.lent j (lo + m - 1) (omega arith) (omega arith));
  }

  pub table_rows : (t : List ℕ) → n ≤ 16 → length t ≡ 256 → RowsLent 0 m m 0 n (length t)
  table_rows t most long = record {
    lent = λ j a b. let h : j ≤ 15 = omega arith in omega (arith, mul-le-mul_right m h);
  }

  pub across_apart : {w : List ℕ} → SpacedRun at 1 along n w → PlacesApart p along 1 m (0 + n)
  across_apart run = record {
    apart = λ k l j i hk hl hj hi e.
        let same = run.spaced.apart l (lo + k) i (lo + j) (omega arith) (omega arith) (omega arith) (omega arith) (omega arith) in
        (omega arith, omega arith);
  }

  pub across_taken : (w t t' u : List ℕ) → n ≤ 16 → Spread 0 m 1 m 0 n (λ k l. get_or w (place_of p along 1 k l) 0) t t' → Turned (16 * lo) 0 16 m t' u → Taken at 1 along n lo m w u
  across_taken w t t' u most loaded turned = record {
    taken = λ l k a b d.
        ap (λ (i : ℕ). get_or u i 0) (omega arith)
        ∙ turned.turned l (k - lo) (omega arith) (omega arith)
        ∙ ap (λ (i : ℕ). get_or t' i 0) (omega arith)
        ∙ loaded.done (k - lo) l (omega arith) (omega arith) (omega arith)
        ∙ ap (λ (i : ℕ). get_or w i 0) (omega arith);
  }

  pub across_spread : (w t t' u : List ℕ) → n ≤ 16 → Turned 0 (16 * lo) m 16 t t' → Spread p along 1 m 0 n (λ k l. get_or t' (m * l + k) 0) w u → Spread at 1 along n lo m (λ l k. get_or t (16 * k + l) 0) w u
  across_spread w t t' u most turned stored = record {
    long = stored.long;
    done = λ l k a b d.
        ap (λ (i : ℕ). get_or u i 0) (omega arith)
        ∙ stored.done (k - lo) l (omega arith) (omega arith) (omega arith)
        ∙ ap (λ (i : ℕ). get_or t' i 0) (omega arith)
        ∙ turned.turned (k - lo) l (omega arith) (omega arith)
        ∙ ap (λ (i : ℕ). get_or t i 0) (omega arith);
    kept = λ j h. stored.kept j (λ k l a b d e. h l (lo + k) (omega arith) (omega arith) (omega arith) (omega arith));
  }

  -- rows are loaded and turned, or turned and stored
  pub across_loaded : (w t u : List ℕ) → SpacedRun at 1 along n w → 0 < m → length t ≡ 256 → Turned (16 * lo) 0 16 m (rows_copied w p along 0 m m 0 n t) u → Taken at 1 along n lo m w u
  across_loaded w t u run some long turned =
      across_taken w t _ u run.few (rows_spread w p along 0 m m 0 n t (rows_apart 0 m m (0 + n) (omega arith)) (table_rows t run.few long) (across_rows run some)) turned

  pub across_stored : (w t t' : List ℕ) → SpacedRun at 1 along n w → 0 < m → Turned 0 (16 * lo) m 16 t t' → Spread at 1 along n lo m (λ l k. get_or t (16 * k + l) 0) w (rows_copied t' 0 m p along m 0 n w)
  across_stored w t t' run some turned =
      let stored = rows_spread t' 0 m p along m 0 n w (across_apart run) (across_rows run some) (table_rows t' run.few turned.long) in
      across_spread w t t' _ run.few turned (record { long = stored.long; done = λ k l a b d. stored.done k l a b d ∙ ap (λ (i : ℕ). get_or t' i 0) (omega arith); kept = stored.kept })
