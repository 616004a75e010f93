-- Laws of the keys of a chunk, for the code that spreads them.
-- Assumes nothing.
use Rattle.std.specs.Prelude.{◌≡◌, refl, Bool, true, false, List, ℕ, ◌+◌, ◌-◌, ◌*◌, ◌/◌, ◌%◌, ◌≤◌, ◌<◌, length, get_or, slice_range, not, eqb, ◌||◌, Option, Some, None}
use Rattle.std.proofs.lemmas.Bool.{not-false}
use Rattle.std.proofs.Common.{sym, drop, length-take-le, length-drop, ◌∙◌, arith, eqb-true}
use Rattle.std.specs.List.{fold}
use Rattle.std.proofs.lemmas.List.{get_or-take, get_or-drop}
use Rattle.base.specs.First.{found, found-false}
use Rattle.byte_lanes.specs.declared.lane_keys.LaneKeys.{LaneKeys}
use Rattle.byte_chunks.specs.FoundLaws.{fold_found}
use Rattle.keys.specs.Keyed.{Keyed, keys_along, key_for}
use Rattle.keys.specs.KeyedLaws.{along_key, key_small}
use Rattle.geometry.specs.Coordinates.{shr}
use Rattle.geometry.specs.declared.Pass.{Pass}
use Rattle.geometry.specs.declared.Superblock.{Superblock}
use Rattle.pass.specs.Chunks.{key_along}
use Rattle.pass_edges.specs.PassEdges.{along_sub, cell_len, edge_count, edge_len}
use Rattle.pass_edges.specs.PassEdgesLaws.{edge_count_small}
use Rattle.byte_pass.specs.ChunkKeys.{CellKeys, KeysIfAny}

-- whether a key filters
abbrev filters : ℕ → Bool
filters key = not (eqb (key % 64) 0)

-- where no cell filters, each has level 0
pub none_filters : (cells : List ℕ) (c : ℕ) → fold (λ any key. any || not (eqb (key % 64) 0)) false cells ≡ false → c < length cells → get_or cells c 0 % 64 ≡ 0
none_filters cells c off h =
    let none : found (λ k. filters (get_or cells k 0)) (length cells) ≡ false = sym (fold_found filters 0 cells) ∙ off in
    eqb-true _ 0 (not-false (eqb (get_or cells c 0 % 64) 0) (found-false (λ k. filters (get_or cells k 0)) (length cells) none c h))

-- n cells of len positions each, from cell n m on, are those of chunk m
record Among (s : Superblock) (pass : Pass) (m len n : ℕ) : Type 0 where
  is : cell_len s pass ≡ len
  some : 0 < len
  inside : n * m + n ≤ 8
  cell : (k : ℕ) → k < 16 → k / len < n
  place : (k : ℕ) → k < 16 → n * m + k / len ≡ (16 * m + k) / len

-- of the keys along an edge, those of the chunk's cells: what is asked of them, and what they tell
pub record Cells (s : Superblock) (pass : Pass) (outer inner : List ℕ) (edge m len n : ℕ) (keys : List ℕ) : Type 0 where
  pub inside : n * m + n ≤ length keys
  pub asked : CellKeys len (slice_range keys (n * m) (n * m + n))
  pub told : (given : Option LaneKeys) → KeysIfAny (λ k. get_or (slice_range keys (n * m) (n * m + n)) (k / len) 0) given → KeysIfAny (λ k. key_along s pass outer inner edge (16 * m + k)) given

module _ (s : Superblock) (pass : Pass) (outer inner : List ℕ) (edge m : ℕ) (keys : List ℕ) (keyed : Keyed outer inner) (few : edge < edge_count s pass) (h : m < edge_len s pass / 16)
    (along : keys ≡ keys_along outer inner edge) (eight : length keys ≡ 8) where
  module _ (len n : ℕ) (a : Among s pass m len n) where
    part : List ℕ
    part = slice_range keys (n * m) (n * m + n)

    long : length part ≡ n
    unfolding part
    long = omega (arith, a.inside, length-take-le (n * m + n - n * m) (drop (n * m) keys) (omega (arith, a.inside, length-drop (n * m) keys)))

    below : (k : ℕ) → k < 16 → (16 * m + k) / len < 8
    below k l = omega (arith, a.inside, a.cell k l, a.place k l)

    at : (k : ℕ) → k < 16 → get_or part (k / len) 0 ≡ key_for outer inner edge ((16 * m + k) / len)
    unfolding part
    at k l =
        get_or-take (n * m + n - n * m) (drop (n * m) keys) (k / len) 0 (omega (arith, a.cell k l))
        ∙ get_or-drop (n * m) keys (k / len) 0
        ∙ rw (along, a.place k l) (along_key outer inner edge ((16 * m + k) / len) (below k l))

    told : (given : Option LaneKeys) → KeysIfAny (λ k. get_or part (k / len) 0) given → KeysIfAny (λ k. key_along s pass outer inner edge (16 * m + k)) given
    unfolding key_along
    told None off = λ k l. rw (a.is, ← at k l) (off k l)
    told (Some keys) each = λ k l. rw a.is (each k l ∙ at k l)

    cells : Cells s pass outer inner edge m len n keys
    unfolding part
    cells = record {
      inside = omega (arith, a.inside);
      asked = record {
        some = a.some;
        enough = λ k l. omega (arith, long, a.cell k l);
        small = λ k l. rw (at k l) (key_small outer inner edge ((16 * m + k) / len) keyed (omega (arith, few, edge_count_small s pass)) (below k l));
      };
      told = told;
    }

  -- a cell has 8 positions, or else 4
  pub eights : cell_len s pass ≡ 8 → Cells s pass outer inner edge m 8 2 keys
  unfolding edge_len
  eights is = cells 8 2 (record { is = is; some = omega arith; inside = by (along_sub s pass) h; cell = λ k l. omega arith; place = λ k l. omega arith })
    where
      by : (b : Bool) → m < shr 64 b / 16 → 2 * m + 2 ≤ 8
      by true l = omega arith
      by false l = omega arith

  pub fours : (cell_len s pass ≡ 8 → ⊥) → Cells s pass outer inner edge m 4 4 keys
  unfolding edge_len
  fours not = let b = by (along_sub s pass) h not in cells 4 4 (record { is = b.0; some = omega arith; inside = b.1; cell = λ k l. omega arith; place = λ k l. omega arith })
    where
      by : (b : Bool) → m < shr 64 b / 16 → (shr 8 b ≡ 8 → ⊥) → (shr 8 b ≡ 4) × (4 * m + 4 ≤ 8)
      by true l e = (refl, omega arith)
      by false l e = absurd (e refl)
