-- The keys and words of one edge pair, behind those of the pairs before it.
-- Assumes nothing.
use Rattle.std.specs.Prelude.{◌≡◌, Bool, ◌||◌, List, ℕ, ◌+◌, ◌*◌, ◌/◌, ◌%◌, ◌<◌, length, get_or, set}
use Rattle.std.proofs.Common.{◌∙◌, zero-add, mul-le-mul, arith}
use Rattle.std.proofs.Math.Nat.{add-zero}
use Rattle.std.proofs.lemmas.Grind.{common_steps}
use Rattle.base.specs.Filled.{filled, filled_none, filled_join, filled_more, filled_same}
use Rattle.base.specs.First.{found, found-start, found_more}
use Rattle.base.specs.FirstLaws.{found_join, found_same}
use Rattle.geometry.specs.Frame.{rows_from, cells_from}
use Rattle.geometry.specs.declared.Pass.{Pass}
use Rattle.geometry.specs.declared.Superblock.{Superblock}
use Rattle.positions.specs.Positions.{Placed}
use Rattle.word_bytes.specs.WordBytes.{bytes_at, words_of}
use Rattle.word_bytes.specs.WordBytesLaws.{words_of-length, words_of_each}
use Rattle.decisions.specs.Decision.{Decision, without_level}
use Rattle.keys.specs.Keys.{key_of}
use Rattle.keys.specs.PlainKeys.{turned_of, limits_of, plain, field, key_by, lack_by, lack_from, plain_key, plain_lack, base_of, place_from, clamped, word_from, word_in, Small}
use Rattle.keys.specs.declared.edge_limits.EdgeLimits.{EdgeLimits}
use Rattle.keys.specs.declared.turned.Turned.{Turned}

-- before the first
pub ruleset started = (filled_none, found-start)

-- what each of 8 places from 8 * e on is filled with, where a rule gives it by the pair's number
more : (f g : ℕ → ℕ) (e : ℕ) (l : List ℕ) → ((k : ℕ) → k / 8 ≡ e → f k ≡ g k) → filled f (8 * e) 8 (filled g 0 (8 * e) l) ≡ filled g 0 (8 * (e + 1)) l
more f g e l h =
    let next : 8 * (e + 1) ≡ 8 * e + 8 = omega arith in
    rw (filled_same f g (8 * e) 8 (filled g 0 (8 * e) l) (λ k b. h (8 * e + k) (omega arith)), next)
    (rw (zero-add (8 * e)) at (filled_join g 0 (8 * e) 8 l))

module _ (t : Turned) (words : List ℕ) (e : ℕ) where
  pub more_keys : (edge parity : ℕ) (l : List ℕ) → edge ≡ 2 * e + parity
      → filled (key_by (limits_of t edge) t.log t.tx words) (8 * e) 8 (filled (plain_key t words parity) 0 (8 * e) l) ≡ filled (plain_key t words parity) 0 (8 * (e + 1)) l
  unfolding plain_key
  more_keys edge parity l is = more _ _ e l (λ k h. rw (h, is))

  pub more_lacks : found (plain_lack t words) (8 * (e + 1)) ≡ found (plain_lack t words) (8 * e) || found (lack_from (limits_of t (2 * e)) (limits_of t (2 * e + 1)) t.log t.tx words (8 * e)) 8
  unfolding plain_lack lack_from
  more_lacks =
      let next : 8 * (e + 1) ≡ 8 * e + 8 = omega arith in
      rw (next, found_join (plain_lack t words) (8 * e) 8, found_same (λ c. plain_lack t words (8 * e + c)) (lack_from (limits_of t (2 * e)) (limits_of t (2 * e + 1)) t.log t.tx words (8 * e)) 8 (λ c b. let h : (8 * e + c) / 8 ≡ e = omega arith in rw (h, add-zero (2 * e))))

-- one cell more of edge pair e
module _ (n : EdgeLimits) (log tx : ℕ) (words : List ℕ) (e c : ℕ) (h : c < 8) where
  cell : (8 * e + c) % 8 ≡ c
  cell = omega arith

  abbrev decides : EdgeLimits → Decision
  decides m = let w = get_or words (8 * e + c) 0 in plain m (field log w) (field tx w) c w

  pub key_more : (l : List ℕ) → filled (key_by n log tx words) (8 * e) (c + 1) l ≡ set (filled (key_by n log tx words) (8 * e) c l) (8 * e + c) (key_of (decides n))
  unfolding key_by
  key_more l = rw (← filled_more (key_by n log tx words) (8 * e) c l, cell)

  pub lack_more : (m : EdgeLimits) → found (lack_from n m log tx words (8 * e)) (c + 1) ≡ found (lack_from n m log tx words (8 * e)) c || (without_level (decides n) || without_level (decides m))
  unfolding lack_from lack_by
  lack_more m = let more = found_more (lack_from n m log tx words (8 * e)) c in let same = cell in grind (arith, common_steps)

pub more_words : (t : Turned) (cells : List ℕ) (e : ℕ) (l : List ℕ) → filled (word_from (base_of t e) t.paired t.along cells) (8 * e) 8 (filled (word_in t cells) 0 (8 * e) l) ≡ filled (word_in t cells) 0 (8 * (e + 1)) l
unfolding word_in
more_words t cells e l = more _ _ e l (λ k h. rw h)

-- the word that is fetched for cell c of edge pair e
pub word_of_pair : (base : ℕ) (paired : Bool) (along e c : ℕ) → c < 8 → (cells : List ℕ) → word_from base paired along cells (8 * e + c) ≡ get_or cells (clamped (place_from base paired along c) (length cells)) 0
unfolding word_from
word_of_pair base paired along e c l cells = let cell : (8 * e + c) % 8 ≡ c = omega arith in rw cell

pub word_more : (base : ℕ) (paired : Bool) (along e c : ℕ) (cells l : List ℕ) → c < 8
    → filled (word_from base paired along cells) (8 * e) (c + 1) l ≡ set (filled (word_from base paired along cells) (8 * e) c l) (8 * e + c) (get_or cells (clamped (place_from base paired along c) (length cells)) 0)
word_more base paired along e c cells l h = rw (← filled_more (word_from base paired along cells) (8 * e) c l, word_of_pair base paired along e c h cells)

-- where the cells arrive as bytes
pub word_of_bytes : (base : ℕ) (paired : Bool) (along e c : ℕ) → c < 8 → (bytes : List ℕ) (at : ℕ) → at ≡ clamped (place_from base paired along c) (length bytes / 4) → at < length bytes / 4
    → word_from base paired along (words_of bytes) (8 * e + c) ≡ bytes_at bytes (4 * at) 4
word_of_bytes base paired along e c l bytes at is h = word_of_pair base paired along e c l (words_of bytes) ∙ (rw (words_of-length bytes, ← is) (words_of_each bytes at h))

turned_small : (s : Superblock) (pass : Pass) (chroma : Bool) → Placed s → Small (turned_of s pass chroma)
unfolding turned_of
turned_small s pass chroma p = record {
  start = grind (arith, common_steps);
  from = grind (arith, common_steps);
  across = grind (arith, common_steps);
  along = grind (arith, common_steps);
  log = grind (arith, common_steps);
  tx = grind (arith, common_steps);
}

pub turned_is : (s : Superblock) (pass : Pass) (chroma : Bool) → Placed s → (t : Turned) → t ≡ turned_of s pass chroma → (t ≡ turned_of s pass chroma) × Small t
turned_is s pass chroma p t e = (e, rw e (turned_small s pass chroma p))

-- there is a cell
pub some_cells : (s : Superblock) → Placed s → 0 < cells_from s.row s.cols s.rows
some_cells s p = mul-le-mul {n₁ = 1} {m₁ = 1} {n₂ = rows_from s.row s.rows} {m₂ = s.cols} (omega arith) (omega arith)
