-- The keys along an edge are those of its cells.
-- Assumes nothing.
use Rattle.std.specs.Prelude.{◌≡◌, Bool, true, false, cond, List, ℕ, ◌+◌, ◌*◌, ◌/◌, ◌%◌, ◌<◌, eqb, get_or, length, slice_range}
use Rattle.std.proofs.Common.{arith, get_or-take, get_or-drop}
use Rattle.std.proofs.lemmas.Grind.{common_steps}
use Rattle.keys.specs.Keyed.{Keyed, keys_along, key_for}

-- of cell c
pub along_key : (outer inner : List ℕ) (edge c : ℕ) → c < 8 → get_or (keys_along outer inner edge) c 0 ≡ key_for outer inner edge c
unfolding keys_along key_for
along_key outer inner edge c h = by (eqb (edge % 2) 0)
  where
    by : (b : Bool) → get_or (slice_range (cond b outer inner) (8 * (edge / 2)) (8 * (edge / 2) + 8)) c 0 ≡ cond b (get_or outer (8 * (edge / 2) + c) 0) (get_or inner (8 * (edge / 2) + c) 0)
    by true = grind (arith, common_steps, get_or-take, get_or-drop)
    by false = grind (arith, common_steps, get_or-take, get_or-drop)

pub along_length : (outer inner : List ℕ) (edge : ℕ) → length outer ≡ 64 → length inner ≡ 64 → edge < 16 → length (keys_along outer inner edge) ≡ 8
unfolding keys_along
along_length outer inner edge g h l = by (eqb (edge % 2) 0)
  where
    by : (b : Bool) → length (slice_range (cond b outer inner) (8 * (edge / 2)) (8 * (edge / 2) + 8)) ≡ 8
    by true = grind (arith, common_steps)
    by false = grind (arith, common_steps)

-- three sizes
pub key_small : (outer inner : List ℕ) (edge c : ℕ) → Keyed outer inner → edge < 16 → c < 8 → key_for outer inner edge c < 192
unfolding key_for
key_small outer inner edge c k l h = by (eqb (edge % 2) 0)
  where
    by : (b : Bool) → cond b (get_or outer (8 * (edge / 2) + c) 0) (get_or inner (8 * (edge / 2) + c) 0) < 192
    by true = k.even (8 * (edge / 2) + c) (omega arith)
    by false = k.odd (8 * (edge / 2) + c) (omega arith)
