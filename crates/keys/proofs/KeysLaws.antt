-- Keys by plain numbers are the keys of the decisions, and a level lacks where a position decides so.
-- Assumes nothing.
use Rattle.std.specs.Prelude.{◌≡◌, Bool, List, ℕ, ◌+◌, ◌*◌, ◌/◌, ◌%◌, ◌≤◌, ◌<◌, length, get_or, replicate}
use Rattle.std.proofs.Math.Path.{sym}
use Rattle.std.proofs.Common.{◌∙◌, inr, zero-add, arith, ext_get_or, take_all, le-ltb}
use Rattle.std.proofs.Math.Bool.{true}
use Rattle.std.proofs.lemmas.Grind.{common_steps}
use Rattle.std.proofs.Math.Decide.{dec_lt}
use Rattle.std.proofs.lemmas.List.{length-replicate, get_or-replicate}
use Rattle.base.specs.Filled.{filled, table, filled_at, filled_other, filled_same, length-filled, take-filled}
use Rattle.cells.specs.Cell.{cell_of}
use Rattle.edge_steps.specs.ScreenLaws.{seen, cell_below}
use Rattle.edge_steps.specs.SuperblockFilter.{on_screen, apply_filter}
use Rattle.geometry.specs.Frame.{cells_from}
use Rattle.geometry.specs.declared.Pass.{Pass}
use Rattle.geometry.specs.declared.Superblock.{Superblock}
use Rattle.pass_edges.specs.PassEdges.{edge_count, cell_start}
use Rattle.pass_edges.specs.PassEdgesLaws.{edge_count_small, cell_first}
use Rattle.positions.specs.Positions.{Placed, luma_x, luma_y}
use Rattle.decisions.specs.Decision.{Decision, cell_index, decision_by, decision, without_level}
use Rattle.keys.proofs.EdgeLimitsLaws.{screen_by, block_by, transform_field, transform_by, size_by_limits, index_by}
use Rattle.keys.specs.Keys.{key_of, key_at, key_in, keys_of}
use Rattle.keys.specs.PlainKeys.{turned_of, pairs, limits_of, plain, field, key_by, plain_key, word_from, word_in}
use Rattle.keys.specs.declared.turned.Turned.{Turned}

-- two edges to a pair
pub edge_pairs : (s : Superblock) (pass : Pass) (chroma : Bool) → edge_count s pass ≡ 2 * pairs (turned_of s pass chroma).sub
unfolding edge_count turned_of
edge_pairs s pass chroma = grind (arith, common_steps)

-- entries that are filled, and zeros behind them
filled_rest : (f : ℕ → ℕ) (n m : ℕ) → n ≤ m → ((k : ℕ) → n ≤ k → f k ≡ 0) → filled f 0 n (replicate m 0) ≡ table f m
filled_rest f n m h rest =
    ext_get_or 0 (filled f 0 n zeros) (filled f 0 m zeros) (length-filled f 0 n zeros ∙ sym (length-filled f 0 m zeros)) (λ k b. same k (omega (arith, size, length-filled f 0 n zeros)) (dec_lt k n))
    ∙ sym (take_all m (filled f 0 m zeros) (omega (arith, size, length-filled f 0 m zeros)))
    ∙ take-filled f m zeros (omega (arith, size))
  where
    zeros : List ℕ
    zeros = replicate m 0

    size : length zeros ≡ m
    size = length-replicate m 0

    at : (j k : ℕ) → k < j → j ≤ m → get_or (filled f 0 j zeros) k 0 ≡ f k
    at j k b l = rw (zero-add k) at (filled_at f 0 j zeros k b (omega (arith, size)))

    same : (k : ℕ) → k < m → Dec (k < n) → get_or (filled f 0 n zeros) k 0 ≡ get_or (filled f 0 m zeros) k 0
    same k b (yes l) = at n k l h ∙ sym (at m k b (omega arith))
    same k b (no l) =
        filled_other f 0 n zeros k (inr (omega arith)) ∙ get_or-replicate m k 0 0 b ∙ sym (rest k (omega arith)) ∙ sym (at m k b (omega arith))

-- of cell k % 8 along an edge of pair k / 8: whether it is on screen, what is decided by the limits of the edge and the cell's word,
-- and whether a level lacks at its first position, and so at each
abbrev shown_in : Superblock → Pass → (parity k : ℕ) → Bool
shown_in s pass parity k =
    on_screen s pass (luma_x s pass (2 * (k / 8) + parity) (cell_start s pass (k % 8))) (luma_y s pass (2 * (k / 8) + parity) (cell_start s pass (k % 8)))

abbrev plain_of : Turned → (cells : List ℕ) (parity k : ℕ) → Decision
plain_of t cells parity k =
    let w = word_in t cells k in
    plain (limits_of t (2 * (k / 8) + parity)) (field t.log w) (field t.tx w) (k % 8) w

abbrev lacks_in : Superblock → Pass → (chroma : Bool) (cells : List ℕ) (parity k : ℕ) → Bool
lacks_in s pass chroma cells parity k = without_level (decision s pass chroma cells (2 * (k / 8) + parity) (cell_start s pass (k % 8)))

module _ (s : Superblock) (pass : Pass) (chroma : Bool) (cells : List ℕ) (p : Placed s) where
  -- a cell decides by the limits of its edge
  by_limits : (edge c w : ℕ) → edge < 16 → c < 8 → let t = turned_of s pass chroma in
      decision_by s pass chroma edge (cell_start s pass c) (cell_of w) ≡ plain (limits_of t edge) (field t.log w) (field t.tx w) c w
  unfolding decision_by plain apply_filter cell_of
  by_limits edge c w few l =
      rw (
        screen_by s chroma p edge c pass,
        block_by s chroma p edge c few pass w,
        transform_field s chroma p pass w,
        transform_by s chroma p edge c few pass (field (turned_of s pass chroma).tx w) l (omega arith),
        size_by_limits s chroma p edge c pass (field (turned_of s pass chroma).tx w) (omega arith),
      )

  module _ (lent : cells_from s.row s.cols s.rows ≤ length cells) (k parity : ℕ) (l : parity < 2) (h : 2 * (k / 8) + parity < edge_count s pass) where
    index_below : shown_in s pass parity k ≡ true
        → cell_index s pass (2 * (k / 8) + parity) (cell_start s pass (k % 8)) < length cells
    unfolding cell_index
    index_below on = omega (arith, lent, cell_below s _ _ p (seen s pass _ _ h (cell_first s pass (k % 8) (omega arith)) on))

    -- on screen the word of the cell was fetched
    word_by : shown_in s pass parity k ≡ true
        → get_or cells (cell_index s pass (2 * (k / 8) + parity) (cell_start s pass (k % 8))) 0 ≡ word_in (turned_of s pass chroma) cells k
    unfolding word_in word_from
    word_by on =
        let at = index_by s chroma p pass (k / 8) parity (k % 8) l in
        let below = index_below on in
        grind (arith, common_steps)

    decision_by_lem : shown_in s pass parity k ≡ true
        → decision s pass chroma cells (2 * (k / 8) + parity) (cell_start s pass (k % 8)) ≡ plain_of (turned_of s pass chroma) cells parity k
    unfolding decision
    decision_by_lem on = rw (on, word_by on) (by_limits (2 * (k / 8) + parity) (k % 8) (word_in (turned_of s pass chroma) cells k) (omega (arith, edge_count_small s pass)) (omega arith))

    key_by_lem : key_of (decision s pass chroma cells (2 * (k / 8) + parity) (cell_start s pass (k % 8))) ≡ key_of (plain_of (turned_of s pass chroma) cells parity k)
    unfolding decision plain key_of
    key_by_lem = let shown = screen_by s chroma p (2 * (k / 8) + parity) (k % 8) pass in grind (arith, common_steps, decision_by_lem)

    pub lack_by_lem : lacks_in s pass chroma cells parity k ≡ without_level (plain_of (turned_of s pass chroma) cells parity k)
    unfolding decision plain
    lack_by_lem = let shown = screen_by s chroma p (2 * (k / 8) + parity) (k % 8) pass in grind (arith, common_steps, decision_by_lem)

    key_in_lem : (words : List ℕ) → get_or words k 0 ≡ word_in (turned_of s pass chroma) cells k → plain_key (turned_of s pass chroma) words parity k ≡ key_in s pass chroma cells parity k
    unfolding plain_key key_by key_in key_at
    key_in_lem words e = let same = key_by_lem in grind (arith, common_steps)

  module _ (lent : cells_from s.row s.cols s.rows ≤ length cells) (words : List ℕ)
      (fetched : words ≡ filled (word_in (turned_of s pass chroma) cells) 0 (8 * pairs (turned_of s pass chroma).sub) (replicate 64 0)) where
    few_pairs : pairs (turned_of s pass chroma).sub ≤ 8
    few_pairs = grind (arith, common_steps)

    pub word_at : (k : ℕ) → k < 8 * pairs (turned_of s pass chroma).sub → get_or words k 0 ≡ word_in (turned_of s pass chroma) cells k
    word_at k b =
        rw fetched
        (rw (zero-add k) at (filled_at (word_in (turned_of s pass chroma) cells) 0 (8 * pairs (turned_of s pass chroma).sub) (replicate 64 0) k b (omega (arith, few_pairs, length-replicate {A = ℕ} 64 0))))

    pub keys_by : (parity : ℕ) → parity < 2 → filled (plain_key (turned_of s pass chroma) words parity) 0 (8 * pairs (turned_of s pass chroma).sub) (replicate 64 0) ≡ keys_of s pass chroma cells parity
    unfolding keys_of key_in
    keys_by parity l =
        filled_same (plain_key (turned_of s pass chroma) words parity) (key_in s pass chroma cells parity) 0 (8 * pairs (turned_of s pass chroma).sub) (replicate 64 0)
        (λ k b. rw (zero-add k) (key_in_lem lent k parity l (omega (arith, edge_pairs s pass chroma)) words (word_at k b)))
        ∙ filled_rest (key_in s pass chroma cells parity) (8 * pairs (turned_of s pass chroma).sub) 64 (omega (arith, few_pairs)) behind
      where
        behind : (k : ℕ) → 8 * pairs (turned_of s pass chroma).sub ≤ k → key_in s pass chroma cells parity k ≡ 0
        behind k b = rw (le-ltb (2 * (k / 8) + parity) (edge_count s pass) (omega (arith, edge_pairs s pass chroma)))
