-- Laws of the test of a window's samples, which goes row by row.
-- Assumes nothing.
use Rattle.std.specs.Prelude.{◌≡◌, true, false, ◌||◌, List, ℕ, ◌+◌, ◌-◌, ◌*◌, ◌≤◌, ◌<◌, Some}
use Rattle.std.proofs.Common.{sym, ap, ◌∙◌, zero-mul, suc-mul, mul-le-mul, mul-le-mul_right, add-one, arith}
use Rattle.std.proofs.Math.Arith.{digits_div, digits_mod}
use Rattle.base.specs.First.{found, first, first_found, first_is, place_found}
use Rattle.base.specs.FirstLaws.{found_join, found_same, found_at, first_same, first_behind}
use Rattle.window.specs.Window.{reaches, bad_sample}
use Rattle.window.specs.WindowLaws.{Lent}
use Rattle.window.specs.declared.WindowShape.{WindowShape}

-- ---- the window's rows

module _ (g : WindowShape) (bound : ℕ) (samples : List ℕ) where
  pub in_row : (row k : ℕ) → k < g.width → bad_sample g bound samples (row * g.width + k) ≡ reaches bound samples (row * g.stride) k
  unfolding bad_sample
  in_row row k h = rw (digits_div row h, digits_mod row h)

  next_row : (row : ℕ) → (row + 1) * g.width ≡ row * g.width + g.width
  next_row row = rw (add-one row) (omega (arith, suc-mul row g.width))

  pub rows_none : false ≡ found (bad_sample g bound samples) (0 * g.width)
  unfolding found
  rows_none = rw (zero-mul g.width)

  pub rows_more : (row : ℕ) → found (bad_sample g bound samples) (row * g.width) || found (reaches bound samples (row * g.stride)) g.width ≡ found (bad_sample g bound samples) ((row + 1) * g.width)
  rows_more row =
      rw (next_row row, found_join (bad_sample g bound samples) (row * g.width) g.width, found_same _ _ g.width (in_row row))

  -- a row in which a sample is bad, where there is none in the rows above
  pub rows_first : (row n : ℕ) → row < n → found (bad_sample g bound samples) (row * g.width) ≡ false → found (reaches bound samples (row * g.stride)) g.width ≡ true
      → row * g.width + first (reaches bound samples (row * g.stride)) g.width ≡ first (bad_sample g bound samples) (n * g.width)
  rows_first row n h none some =
      let end : row * g.width + g.width ≤ n * g.width = omega (arith, next_row row, mul-le-mul_right g.width h) in
      sym (first_behind (bad_sample g bound samples) (row * g.width) g.width (n * g.width) none (found_same _ _ g.width (in_row row) ∙ some) end
      ∙ ap (λ (k : ℕ). row * g.width + k) (first_same _ _ g.width (in_row row)))

  pub rows_found : (row n : ℕ) {k : ℕ} → row < n → found (bad_sample g bound samples) (row * g.width) ≡ false → first_found (reaches bound samples (row * g.stride)) g.width ≡ Some k
      → (k < g.width) × (Some (row * g.width + k) ≡ first_found (bad_sample g bound samples) (n * g.width))
  rows_found row n {k} h none e =
      let hit = place_found (reaches bound samples (row * g.stride)) g.width e in
      let place = first_is (reaches bound samples (row * g.stride)) g.width hit.0 in
      let to = place.to in
      let is = hit.1 in
      let inside : k < g.width = omega arith in
      let end : row * g.width + g.width ≤ n * g.width = omega (arith, next_row row, mul-le-mul_right g.width h) in
      let some = found_at (bad_sample g bound samples) (n * g.width) (row * g.width + k) (omega arith) (in_row row k inside ∙ (rw hit.1 at place.holds)) in
      (inside, rw (some, ← rows_first row n h none hit.0, hit.1))

-- a row of a window is lent, and no count is large
pub row_room : (g : WindowShape) (n row : ℕ) → Lent g n → row < g.height → (row * g.stride + g.width ≤ n) × (row * g.stride ≤ 65536 * 131072) × (row * g.width ≤ 65536 * 65536)
row_room g n row w h =
    let r : row ≤ g.height - 1 = omega arith in
    let s : row ≤ 65536 = omega (arith, w.bottom) in
    (omega (arith, w.room, mul-le-mul_right g.stride r), mul-le-mul s w.far, mul-le-mul s w.right)

pub samples_small : (g : WindowShape) (n : ℕ) → Lent g n → g.height * g.width ≤ 65536 * 65536
samples_small g n w = let h : g.height ≤ 65536 = omega (arith, w.bottom) in mul-le-mul h w.right
