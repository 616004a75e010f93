-- The transform of a chroma block: 6.4.22, 6.4.23, 10.2.
-- Assumes nothing.
use Rattle.std.specs.Prelude.{Bool, cond, ◌&&◌, ℕ, ◌+◌, min, eqb, ltb}
use Rattle.base.specs.First.{first, found}
use Rattle.blocks.specs.BlockSizes.{b_width_log2, b_height_log2}

-- max_txsize_lookup: the largest transform that fits the block, at most TX_32X32 (3)
unfoldable pub max_tx_size : ℕ → ℕ
max_tx_size size = min 3 (min (b_width_log2 size) (b_height_log2 size))

-- BLOCK_INVALID
abbrev pub invalid : ℕ
invalid = 14

-- the size s has the block's width shifted right by subX and its height shifted right by subY
abbrev pub subsampled_to : (size : ℕ) (sub_x sub_y : Bool) (s : ℕ) → Bool
subsampled_to size sub_x sub_y s =
    eqb (b_width_log2 s + cond sub_x 1 0) (b_width_log2 size) && eqb (b_height_log2 s + cond sub_y 1 0) (b_height_log2 size)

-- ss_size_lookup: that size, or BLOCK_INVALID where there is none
unfoldable pub ss_size : (size : ℕ) (sub_x sub_y : Bool) → ℕ
ss_size size sub_x sub_y =
    cond (found (subsampled_to size sub_x sub_y) 13) (first (subsampled_to size sub_x sub_y) 13) invalid

-- the largest transform of a block in planes 1 and 2: get_uv_tx_size( ) without tx_size
unfoldable pub uv_limit : (sub_x sub_y : Bool) (mi_size : ℕ) → ℕ
uv_limit sub_x sub_y mi_size =
    cond (ltb mi_size 3) 0 (cond (eqb (ss_size mi_size sub_x sub_y) invalid) 0 (max_tx_size (ss_size mi_size sub_x sub_y)))

-- get_uv_tx_size( ). Where the chroma shape does not exist VP9-S has no case, and document 01 gives 0.
unfoldable pub uv_tx_size : (tx_size mi_size : ℕ) (sub_x sub_y : Bool) → ℕ
uv_tx_size tx_size mi_size sub_x sub_y =
    cond (ltb mi_size 3) 0
    (cond (eqb (ss_size mi_size sub_x sub_y) invalid) 0
    (min tx_size (max_tx_size (ss_size mi_size sub_x sub_y))))
