-- Which filter a line of bytes gets by its key, and what that filter makes of it: the tests first, so that lanes of one filter
-- can be done together. Assumes nothing.
use Rattle.std.specs.Prelude.{cond, ◌&&◌, List, ℕ, zero, suc, ◌%◌, ◌/◌, leb, ltb}
use Rattle.byte_filters.specs.declared.Arm.{Arm}
use Rattle.byte_filters.specs.declared.Arm.TheVariants.{None, Narrow, Six, Fourteen}
use Rattle.line.specs.Masks.{hev_mask, filter_mask, flat_mask, flat_mask2}
use Rattle.line.specs.NarrowFilter.{narrow_filter}
use Rattle.strength.specs.Strength.{strength_of}
use Rattle.wide_filter.specs.WideFilter.{wide_filter}

-- an arm as a number
abbrev pub number_of : Arm → ℕ
number_of None = 0
number_of Narrow = 1
number_of Six = 2
number_of Fourteen = 3

-- the arm of a line: 0 no filter, 1 the narrow one, 2 the wide one of six samples, 3 that of fourteen
unfoldable pub arm_of : (sharpness key : ℕ) (t : List ℕ) → ℕ
arm_of sharpness key t =
    let s = strength_of (key % 64) sharpness in
    cond (ltb 0 (key % 64) && filter_mask s.limit s.blimit t)
    (cond (leb 64 key && flat_mask 1 t) (cond (leb 128 key && flat_mask2 1 t) 3 2) 1)
    0

-- a line with the filter of an arm
unfoldable pub armed : (key arm : ℕ) (t : List ℕ) → List ℕ
armed key zero t = t
armed key (suc zero) t = narrow_filter 8 (hev_mask (key % 64 / 16) t) t
armed key (suc (suc zero)) t = wide_filter 3 t
armed key (suc (suc (suc n))) t = wide_filter 4 t
