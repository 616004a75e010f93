-- Mode types and strengths are the standard's.
-- Assumes nothing.
use Rattle.std.specs.Prelude.{◌≡◌, refl, ℕ}
use Rattle.section_8_8.specs.LoopFilterProcess as Std
use Rattle.strength.specs.Strength.{mode_type, limit_of, strength_of}

pub mode_type_standard : (mode : ℕ) → mode_type mode ≡ Std.mode_type mode
unfolding mode_type Std.mode_type
mode_type_standard mode = refl

pub strength_standard : (lvl sharpness : ℕ) → strength_of lvl sharpness ≡ record { lvl = lvl; limit = Std.limit_of lvl sharpness; blimit = Std.blimit_of lvl sharpness; thresh = Std.thresh_of lvl }
unfolding strength_of limit_of Std.limit_of Std.blimit_of Std.thresh_of
strength_standard lvl sharpness = refl
