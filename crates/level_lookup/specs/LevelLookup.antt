-- The flat level table, and what stands in it for a segment, a reference and a mode type.
-- Assumes nothing.
use Rattle.std.specs.Prelude.{cond, not, ◌&&◌, List, ℕ, ◌+◌, ◌*◌, ltb, ℤ, pos, nat_abs, get_or, replicate, Option, Some, None}
use Rattle.std.specs.Int.Signed.{lt_z}

abbrev pub zero_levels : List ℕ
zero_levels = replicate 64 0

-- where the flat table holds an entry
abbrev pub level_at : ℕ → ℕ → ℕ → ℕ
level_at segment ref mode = segment * 8 + ref * 2 + mode

-- LvlLookup[ segment ][ ref ][ mode ], where there is such an entry
unfoldable pub lookup_of : List ℕ → ℕ → ℤ → ℕ → Option ℕ
lookup_of levels segment ref mode =
    cond (ltb segment 8 && ltb mode 2 && not (lt_z ref (pos 0)) && ltb (nat_abs ref) 4)
    (Some (get_or levels (level_at segment (nat_abs ref) mode) 0))
    None
