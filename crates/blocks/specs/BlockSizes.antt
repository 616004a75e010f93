-- Block sizes: 10.2.
-- Assumes nothing.
use Rattle.std.specs.Prelude.{List, ℕ, ◌+◌, ◌-◌, ◌/◌, ◌%◌, ◌^◌, replicate}
use Rattle.base.specs.Filled.{filled}

-- Sizes come in threes: a square of 4 << n samples, the same of twice its height, the same of twice its width. So
-- BLOCK_4X4 is 0, BLOCK_8X8 3, BLOCK_16X16 6, BLOCK_32X32 9 and BLOCK_64X64 12.

-- b_width_log2_lookup and b_height_log2_lookup: logarithms of width and height in 4-sample units. The remainder of a size by 3
-- is 0 for a square, 1 for twice the height, 2 for twice the width.
abbrev pub b_width_log2 : ℕ → ℕ
b_width_log2 size = size / 3 + size % 3 / 2

abbrev pub b_height_log2 : ℕ → ℕ
b_height_log2 size = size / 3 + size % 3 % 2

-- the same in 8-sample units, where less than 8 samples count as 8
unfoldable pub mi_width_log2 : ℕ → ℕ
mi_width_log2 size = b_width_log2 size - 1

unfoldable pub mi_height_log2 : ℕ → ℕ
mi_height_log2 size = b_height_log2 size - 1

-- a table by block size
abbrev pub by_size : (ℕ → ℕ) → List ℕ
by_size f = filled f 0 13 (replicate 13 0)

-- num_8x8_blocks_wide_lookup and num_8x8_blocks_high_lookup
unfoldable pub num8x8_wide : ℕ → ℕ
num8x8_wide size = 2 ^ mi_width_log2 size

unfoldable pub num8x8_high : ℕ → ℕ
num8x8_high size = 2 ^ mi_height_log2 size
