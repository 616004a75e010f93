-- The fetched words of a pass tell what its cells decide: the keys, and the first place without level.
-- Assumes nothing.
use Rattle.std.specs.Prelude.{◌≡◌, refl, Bool, List, ℕ, ◌+◌, ◌*◌, ◌/◌, ◌%◌, ◌≤◌, ◌<◌, length, replicate, true, false, cond, Some, None, T}
use Rattle.std.proofs.Math.Path.{sym}
use Rattle.std.proofs.Common.{ap, ◌∙◌, subst, arith}
use Rattle.std.proofs.Math.Decide.{dec_lt}
use Rattle.std.proofs.lemmas.Grind.{common_steps}
use Rattle.base.specs.First.{first, found, found_none, found-false, First, first_is, first_small}
use Rattle.base.specs.FirstLaws.{first_same, found_same}
use Rattle.base.specs.Tests.{neither}
use Rattle.decisions.specs.Decision.{without_level, levelless, cell_place}
use Rattle.decisions.specs.LevellessLaws.{levelless_at_lem, first_cells}
use Rattle.geometry.specs.Frame.{cells_from}
use Rattle.geometry.specs.declared.Pass.{Pass}
use Rattle.geometry.specs.declared.Superblock.{Superblock}
use Rattle.pass_edges.specs.PassEdges.{along_sub, edge_count, cell_start}
use Rattle.pass_edges.specs.PassEdgesLaws.{cell_first}
use Rattle.positions.specs.Positions.{Placed}
use Rattle.keys.specs.Keys.{Told}
use Rattle.keys.proofs.KeysLaws.{edge_pairs, lack_by_lem, word_at, keys_by}
use Rattle.keys.specs.PlainKeys.{turned_of, pairs, limits_in, plain_in, lack_by, plain_lack, lack_at, fetched, PlainTold}
use Rattle.keys.specs.declared.edge_keys.Keys.{Keys}
use Rattle.keys.specs.declared.turned.Turned.{Turned}

turned_paired : (s : Superblock) (pass : Pass) (chroma : Bool) → (turned_of s pass chroma).paired ≡ along_sub s pass
unfolding turned_of
turned_paired s pass chroma = grind (arith, common_steps)

-- two tests, of which one does not hold where the other does not
same_false : (a b : Bool) → (b ≡ false → a ≡ false) → (a ≡ false → b ≡ false) → a ≡ b
same_false a b f g = grind (arith, common_steps)

-- cell k of the pairs is two of the edges' cells
module _ (t : Turned) (words : List ℕ) where
  lack_of_pair : (parity k : ℕ) → parity < 2 → lack_at t words (16 * (k / 8) + 8 * parity + k % 8) ≡ without_level (plain_in (limits_in t parity k) t.log t.tx words k)
  unfolding lack_at
  lack_of_pair parity k l =
      let at = 16 * (k / 8) + 8 * parity + k % 8 in
      let edge : at / 8 ≡ 2 * (k / 8) + parity = omega arith in
      let place : 8 * (at / 16) + at % 8 ≡ k = omega arith in
      rw (edge, place)

  pairs_told : found (plain_lack t words) (8 * pairs t.sub) ≡ found (lack_at t words) (16 * pairs t.sub)
  unfolding plain_lack lack_by
  pairs_told = same_false _ _ (λ e. found_none (plain_lack t words) _ (none_lack e)) (λ e. found_none (lack_at t words) _ (none_told e))
    where
      none_lack : found (lack_at t words) (16 * pairs t.sub) ≡ false → (k : ℕ) → k < 8 * pairs t.sub → plain_lack t words k ≡ false
      none_lack e k h =
          let none = found-false (lack_at t words) (16 * pairs t.sub) e in
          let outer = sym (lack_of_pair 0 k (omega arith)) ∙ none (16 * (k / 8) + 8 * 0 + k % 8) (omega arith) in
          let inner = sym (lack_of_pair 1 k (omega arith)) ∙ none (16 * (k / 8) + 8 * 1 + k % 8) (omega arith) in
          grind (arith, common_steps)

      none_told : found (plain_lack t words) (8 * pairs t.sub) ≡ false → (j : ℕ) → j < 16 * pairs t.sub → lack_at t words j ≡ false
      none_told e j h = go (dec_lt (j / 8 % 2) 1)
        where
          k : ℕ
          k = 8 * (j / 16) + j % 8

          both : (without_level (plain_in (limits_in t 0 k) t.log t.tx words k) ≡ false) × (without_level (plain_in (limits_in t 1 k) t.log t.tx words k) ≡ false)
          both = neither _ (found-false (plain_lack t words) (8 * pairs t.sub) e k (omega arith))

          go : Dec (j / 8 % 2 < 1) → lack_at t words j ≡ false
          go (yes q) = let is : j ≡ 16 * (k / 8) + 8 * 0 + k % 8 = omega arith in rw is (lack_of_pair 0 k (omega arith) ∙ both.0)
          go (no q) = let is : j ≡ 16 * (k / 8) + 8 * 1 + k % 8 = omega arith in rw is (lack_of_pair 1 k (omega arith) ∙ both.1)

-- the first positions of the cells of n edges, and all their positions
found_cells : (s : Superblock) (pass : Pass) (chroma : Bool) (cells : List ℕ) (n : ℕ)
    → found (λ k. levelless s pass chroma cells (cell_place (along_sub s pass) k)) (8 * n) ≡ found (levelless s pass chroma cells) (64 * n)
found_cells s pass chroma cells n = same_false _ _ some none
  where
    test : ℕ → Bool
    test = levelless s pass chroma cells

    at : ℕ → ℕ
    at = cell_place (along_sub s pass)

    below : (sub : Bool) (k : ℕ) → k < 8 * n → cell_place sub k < 64 * n
    below sub k h = grind (arith, common_steps)

    some : found test (64 * n) ≡ false → found (λ k. test (at k)) (8 * n) ≡ false
    some e = found_none (λ k. test (at k)) (8 * n) (λ k h. found-false test (64 * n) e (at k) (below (along_sub s pass) k h))

    none : found (λ k. test (at k)) (8 * n) ≡ false → found test (64 * n) ≡ false
    none e = cases (found test (64 * n)) refl
      where
        cell : ℕ
        cell = first (λ k. test (at k)) (8 * n)

        end : (sub : Bool) → cell_place sub (8 * n) ≡ 64 * n
        end sub = grind (arith, common_steps)

        go : First test 0 (64 * n) (at cell) → Dec (cell < 8 * n) → found test (64 * n) ≡ false
        go f (yes l) = absurd (subst T (sym f.holds ∙ found-false (λ k. test (at k)) (8 * n) e cell l) tt)
        go f (no l) =
            let small = first_small (λ k. test (at k)) 0 (8 * n) in
            let all : cell ≡ 8 * n = omega arith in
            let to = f.to in
            absurd (omega (arith, end (along_sub s pass), ap at all))

        cases : (b : Bool) → found test (64 * n) ≡ b → found test (64 * n) ≡ false
        cases false d = d
        cases true d = go (subst (First test 0 (64 * n)) (first_cells s pass chroma cells n) (first_is test (64 * n) d)) (dec_lt cell (8 * n))

module _ (s : Superblock) (pass : Pass) (chroma : Bool) (cells : List ℕ) (p : Placed s) (lent : cells_from s.row s.cols s.rows ≤ length cells)
    (words : List ℕ) (are : words ≡ fetched (turned_of s pass chroma) cells (replicate 64 0)) where
  -- the test of a cell is that at its first position
  lack_at_lem : (k : ℕ) → k < 8 * edge_count s pass → lack_at (turned_of s pass chroma) words k ≡ levelless s pass chroma cells (cell_place (along_sub s pass) k)
  unfolding lack_at
  lack_at_lem k h =
      let at = 8 * (k / 16) + k % 8 in
      let edge : 2 * (at / 8) + k / 8 % 2 ≡ k / 8 = omega arith in
      let cell : at % 8 ≡ k % 8 = omega arith in
      sym
      (levelless_at_lem s pass chroma cells (k / 8) (cell_start s pass (k % 8)) (cell_first s pass (k % 8) (omega arith))
      ∙ (rw (word_at s pass chroma cells p lent words are at (omega (arith, edge_pairs s pass chroma)), cell)
      (rw (edge, cell) at (lack_by_lem s pass chroma cells p lent at (k / 8 % 2) (omega arith) (omega arith)))))

  pub first_told : cell_place (turned_of s pass chroma).paired (first (lack_at (turned_of s pass chroma) words) (16 * pairs (turned_of s pass chroma).sub)) ≡ first (levelless s pass chroma cells) (64 * edge_count s pass)
  first_told =
      let t = turned_of s pass chroma in
      let count : 16 * pairs t.sub ≡ 8 * edge_count s pass = omega (arith, edge_pairs s pass chroma) in
      ap (λ (sub : Bool). cell_place sub (first (lack_at t words) (16 * pairs t.sub))) (turned_paired s pass chroma)
      ∙ ap (λ (n : ℕ). cell_place (along_sub s pass) (first (lack_at t words) n)) count
      ∙ ap (cell_place (along_sub s pass)) (first_same (lack_at t words) _ (8 * edge_count s pass) lack_at_lem)
      ∙ sym (first_cells s pass chroma cells (edge_count s pass))

  -- a cell lacks where a position does
  found_told : found (lack_at (turned_of s pass chroma) words) (16 * pairs (turned_of s pass chroma).sub) ≡ found (levelless s pass chroma cells) (64 * edge_count s pass)
  found_told =
      let t = turned_of s pass chroma in
      let count : 16 * pairs t.sub ≡ 8 * edge_count s pass = omega (arith, edge_pairs s pass chroma) in
      ap (λ (n : ℕ). found (lack_at t words) n) count ∙ found_same (lack_at t words) _ (8 * edge_count s pass) lack_at_lem ∙ found_cells s pass chroma cells (edge_count s pass)

  pub lacks_by : found (plain_lack (turned_of s pass chroma) words) (8 * pairs (turned_of s pass chroma).sub) ≡ found (levelless s pass chroma cells) (64 * edge_count s pass)
  lacks_by = pairs_told (turned_of s pass chroma) words ∙ found_told

  pub told : (r : Keys) → PlainTold (turned_of s pass chroma) words r → Told s pass chroma cells r
  told r plain = (
    plain.0 ∙ keys_by s pass chroma cells p lent words are 0 (omega arith),
    plain.1 ∙ keys_by s pass chroma cells p lent words are 1 (omega arith),
    plain.2 ∙ (rw (lacks_by, found_told, first_told) (twice (found (levelless s pass chroma cells) (64 * edge_count s pass)) (first (levelless s pass chroma cells) (64 * edge_count s pass)))),
  )
    where
      twice : (b : Bool) (x : ℕ) → cond b (cond b (Some x) None) None ≡ cond b (Some x) None
      twice b x = grind (arith, common_steps)
