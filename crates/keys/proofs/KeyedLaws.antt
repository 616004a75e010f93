-- Keys by plain numbers have one of three sizes.
-- Assumes nothing.
use Rattle.std.specs.Prelude.{◌≡◌, List, ℕ, ◌*◌, ◌<◌, get_or, replicate}
use Rattle.std.proofs.Common.{arith}
use Rattle.std.proofs.lemmas.Grind.{common_steps}
use Rattle.std.proofs.lemmas.List.{get_or-replicate, get_or_past}
use Rattle.base.specs.Filled.{filled-below}
use Rattle.cells.specs.CellLaws.{bit_small}
use Rattle.keys.specs.Keyed.{Keyed}
use Rattle.keys.specs.Keys.{key_of}
use Rattle.keys.specs.PlainKeys.{plain, key_by, plain_key, plain_keys, pairs}
use Rattle.keys.specs.declared.edge_limits.EdgeLimits.{EdgeLimits}
use Rattle.keys.specs.declared.turned.Turned.{Turned}

plain_small : (n : EdgeLimits) (log tx c w : ℕ) → key_of (plain n log tx c w) < 192
unfolding plain key_of
plain_small n log tx c w = grind (arith, common_steps, bit_small)

place_small : (t : Turned) (words : List ℕ) (parity k : ℕ) → plain_key t words parity k < 192
unfolding plain_key key_by
place_small t words parity k = plain_small _ _ _ _ _

zeros : (n k : ℕ) → get_or (replicate n 0) k 0 < 192
zeros n k = grind (arith, common_steps, get_or-replicate, get_or_past)

list_small : (t : Turned) (words : List ℕ) (parity k : ℕ) → get_or (plain_keys t words parity) k 0 < 192
list_small t words parity k = filled-below 192 (plain_key t words parity) 0 (8 * pairs t.sub) (replicate 64 0) k (place_small t words parity) (zeros 64 k)

pub keyed : (t : Turned) (words : List ℕ) {outer inner : List ℕ} → outer ≡ plain_keys t words 0 → inner ≡ plain_keys t words 1 → Keyed outer inner
keyed t words even odd = record { even = λ k h. rw even (list_small t words 0 k); odd = λ k h. rw odd (list_small t words 1 k) }
