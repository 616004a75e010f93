-- Block sizes, and steps 7 and 9 of 8.8.2, are the standard's.
-- Assumes nothing.
use Rattle.std.specs.Prelude.{◌≡◌, refl, false, not, ℕ, zero, suc, ◌≤◌, eqb, ℤ, pos, negsuc}
use Rattle.std.proofs.Common.{arith, eqb-true, lt-ltb}
use Rattle.std.proofs.lemmas.Bool.{not-false, lt-leb}
use Rattle.base.specs.First.{found, found-false}
use Rattle.section_8_8.specs.LoopFilterProcess as Std
use Rattle.blocks.specs.BlockSizes.{mi_width_log2, mi_height_log2, num8x8_wide, num8x8_high}
use Rattle.blocks.specs.ModeInfo.{sb_size, is_intra}

-- two rules that agree at the 13 sizes, by one computed test
pub at_sizes : (f g : ℕ → ℕ) → found (λ size. not (eqb (f size) (g size))) 13 ≡ false → (size : ℕ) → size ≤ 12 → f size ≡ g size
at_sizes f g none size h =
    eqb-true (f size) (g size) (not-false _ (found-false (λ k. not (eqb (f k) (g k))) 13 none size (omega arith)))

pub wide_standard : (size : ℕ) → size ≤ 12 → num8x8_wide size ≡ Std.num8x8_blocks_wide size
unfolding num8x8_wide mi_width_log2 found
wide_standard size h = at_sizes num8x8_wide Std.num8x8_blocks_wide refl size h

pub high_standard : (size : ℕ) → size ≤ 12 → num8x8_high size ≡ Std.num8x8_blocks_high size
unfolding num8x8_high mi_height_log2 found
high_standard size h = at_sizes num8x8_high Std.num8x8_blocks_high refl size h

pub sb_size_standard : (s mi_size : ℕ) → s ≤ 1 → sb_size (eqb s 1) mi_size ≡ Std.sb_size s mi_size
unfolding sb_size Std.sb_size
sb_size_standard zero mi_size h = refl
sb_size_standard (suc zero) mi_size h = refl
sb_size_standard (suc (suc s)) mi_size h = absurd (omega arith)

pub is_intra_standard : (ref : ℤ) → is_intra ref ≡ Std.is_intra ref
unfolding is_intra Std.is_intra
is_intra_standard (pos zero) = refl
is_intra_standard (pos (suc n)) = rw (lt-ltb 0 (suc n) (omega arith), lt-leb (suc n) 0 (omega arith))
is_intra_standard (negsuc n) = refl
