-- The sample filtering process: 8.8.5. Which filter a line gets.
-- Assumes nothing.
use Rattle.std.specs.Prelude.{cond, not, ◌||◌, List, ℕ, eqb}
use Rattle.base.specs.Depth.{scaled}
use Rattle.line.specs.Masks.{hev_mask, filter_mask, flat_mask, flat_mask2}
use Rattle.line.specs.NarrowFilter.{narrow_filter}
use Rattle.wide_filter.specs.WideFilter.{wide_filter}

unfoldable pub sample_filtering : (B filter_size limit blimit thresh : ℕ) (t : List ℕ) → List ℕ
sample_filtering B filter_size limit blimit thresh t =
    cond (filter_mask (scaled B limit) (scaled B blimit) t)
    (cond (eqb filter_size 0 || not (flat_mask (scaled B 1) t))
    (narrow_filter B (hev_mask (scaled B thresh) t) t)
    (cond (eqb filter_size 1 || not (flat_mask2 (scaled B 1) t)) (wide_filter 3 t) (wide_filter 4 t)))
    t
