-- The search for a decided position without level goes from cell to cell: the positions of a cell have one decision.
-- Assumes nothing.
use Rattle.std.specs.Prelude.{◌≡◌, Bool, cond, List}
use Rattle.std.proofs.Math.Path.{refl}
use Rattle.std.proofs.Common.{◌∙◌, ℕ, zero, suc, ◌+◌, ◌-◌, ◌*◌, ◌/◌, ◌%◌, ◌≤◌, ◌<◌, arith, lt-ltb, le-ltb}
use Rattle.std.proofs.Math.Bool.{true, false}
use Rattle.std.proofs.Math.Nat.{sub_self, sub-zero}
use Rattle.std.proofs.Math.Decide.{dec_lt}
use Rattle.base.specs.First.{first_from, first, first_here, first_skip, first_end}
use Rattle.geometry.specs.Coordinates.{shr}
use Rattle.geometry.specs.declared.Pass.{Pass}
use Rattle.geometry.specs.declared.Superblock.{Superblock}
use Rattle.decisions.specs.Decision.{decision, without_level, levelless, cell_place}
use Rattle.decisions.specs.DecisionLaws.{same_decision}
use Rattle.pass_edges.specs.PassEdgesLaws.{edge_len_small, cell_along}
use Rattle.pass_edges.specs.PassEdges.{along_sub, edge_len}

place_edges : (sub : Bool) (n : ℕ) → cell_place sub (8 * n) ≡ 64 * n
place_edges true n = omega arith
place_edges false n = omega arith

place_next : (sub : Bool) (k : ℕ) → cell_place sub k + (cell_place sub (k + 1) - cell_place sub k) ≡ cell_place sub (k + 1)
place_next true k = omega arith
place_next false k = omega arith

place_small : (sub : Bool) (k n : ℕ) → k < 8 * n → cell_place sub (k + 1) ≤ 64 * n
place_small true k n h = omega arith
place_small false k n h = omega arith

place-below : (sub : Bool) (k n : ℕ) → k < 8 * n → cell_place sub k < 64 * n
place-below true k n h = omega arith
place-below false k n h = omega arith

-- up to the next cell there are the positions of this one, and behind the last of a subsampled edge no positions
place_inside : (sub : Bool) (k j : ℕ) → j < cell_place sub (k + 1) - cell_place sub k → shr (8 * (k % 8)) sub + j < 64
place_inside true k j h = omega arith
place_inside false k j h = omega arith

place-behind : (sub : Bool) (k j : ℕ) → j < cell_place sub (k + 1) - cell_place sub k → shr 8 sub ≤ j → shr 64 sub ≤ shr (8 * (k % 8)) sub + j
place-behind true k j h l = omega arith
place-behind false k j h l = omega arith

module _ (s : Superblock) (pass : Pass) (chroma : Bool) (cells : List ℕ) where
  pub levelless_at_lem : (edge i : ℕ) → i < edge_len s pass → levelless s pass chroma cells (64 * edge + i) ≡ without_level (decision s pass chroma cells edge i)
  unfolding levelless
  levelless_at_lem edge i h =
      let small = edge_len_small s pass in
      let e : (64 * edge + i) / 64 ≡ edge = omega arith in
      let p : (64 * edge + i) % 64 ≡ i = omega arith in
      rw (e, p, lt-ltb i (edge_len s pass) h)

  pub levelless-behind : (edge i : ℕ) → edge_len s pass ≤ i → i < 64 → levelless s pass chroma cells (64 * edge + i) ≡ false
  unfolding levelless
  levelless-behind edge i h l =
      let p : (64 * edge + i) % 64 ≡ i = omega arith in
      rw (p, le-ltb i (edge_len s pass) h)

  pub levelless_cell : (edge c j : ℕ) → c < 8 → j < shr 8 (along_sub s pass)
      → levelless s pass chroma cells (64 * edge + (shr (8 * c) (along_sub s pass) + j)) ≡ levelless s pass chroma cells (64 * edge + shr (8 * c) (along_sub s pass))
  levelless_cell edge c j h l =
      let on = cell_along s pass c h in
      rw (levelless_at_lem edge (shr (8 * c) (along_sub s pass) + j) (omega arith), levelless_at_lem edge (shr (8 * c) (along_sub s pass)) (omega arith), same_decision s pass chroma cells edge c j l)

  cell_without : (k j : ℕ) → levelless s pass chroma cells (cell_place (along_sub s pass) k) ≡ false → j < cell_place (along_sub s pass) (k + 1) - cell_place (along_sub s pass) k
      → levelless s pass chroma cells (cell_place (along_sub s pass) k + j) ≡ false
  unfolding edge_len
  cell_without k j e h =
      let assoc : cell_place (along_sub s pass) k + j ≡ 64 * (k / 8) + (shr (8 * (k % 8)) (along_sub s pass) + j) = omega arith in
      rw assoc (go (dec_lt j (shr 8 (along_sub s pass))))
    where
      go : Dec (j < shr 8 (along_sub s pass)) → levelless s pass chroma cells (64 * (k / 8) + (shr (8 * (k % 8)) (along_sub s pass) + j)) ≡ false
      go (yes l) = levelless_cell (k / 8) (k % 8) j (omega arith) l ∙ e
      go (no l) = levelless-behind (k / 8) _ (place-behind (along_sub s pass) k j h (omega arith)) (place_inside (along_sub s pass) k j h)

  -- a search that has come to cell k of n edges goes on at the next cell
  first_next_cell : (k n : ℕ) → k < 8 * n → levelless s pass chroma cells (cell_place (along_sub s pass) k) ≡ false
      → first_from (levelless s pass chroma cells) (cell_place (along_sub s pass) k) (64 * n - cell_place (along_sub s pass) k)
      ≡ first_from (levelless s pass chroma cells) (cell_place (along_sub s pass) (k + 1)) (64 * n - cell_place (along_sub s pass) (k + 1))
  first_next_cell k n h e =
      let sub = along_sub s pass in
      let small : cell_place sub k + (cell_place sub (k + 1) - cell_place sub k) ≤ 64 * n = omega (arith, place_next sub k, place_small sub k n h) in
      rw (place_next sub k) at (first_skip (levelless s pass chroma cells) (cell_place sub k) (cell_place sub (k + 1) - cell_place sub k) (64 * n) small (λ j l. cell_without k j e l))

  -- the search among the positions by that among the cells, by the test at the first position of each
  abbrev at_cell : (k : ℕ) → Bool
  at_cell k = levelless s pass chroma cells (cell_place (along_sub s pass) k)

  abbrev FromCell : (n k m : ℕ) → Type 0
  FromCell n k m =
      let place = cell_place (along_sub s pass) in
      first_from (levelless s pass chroma cells) (place k) (64 * n - place k) ≡ place (first_from at_cell k m)

  from_cell : (n k m : ℕ) → k + m ≡ 8 * n → FromCell n k m
  unfolding first_from
  from_cell n k zero e =
      let all : k ≡ 8 * n = omega arith in
      rw (all, place_edges (along_sub s pass) n, sub_self (64 * n)) (first_end (levelless s pass chroma cells) (64 * n))
  from_cell n k (suc m) e = go (at_cell k) refl (from_cell n (k + 1) m (omega arith))
    where
      go : (b : Bool) → at_cell k ≡ b → FromCell n (k + 1) m → let place = cell_place (along_sub s pass) in
          first_from (levelless s pass chroma cells) (place k) (64 * n - place k) ≡ place (cond b k (first_from at_cell (k + 1) m))
      go true t next = first_here (levelless s pass chroma cells) _ (64 * n) (place-below (along_sub s pass) k n (omega arith)) t
      go false t next = first_next_cell k n (omega arith) t ∙ next

  pub first_cells : (n : ℕ) → first (levelless s pass chroma cells) (64 * n) ≡ cell_place (along_sub s pass) (first at_cell (8 * n))
  first_cells n = rw (place_edges (along_sub s pass) 0, sub-zero (64 * n)) at (from_cell n 0 (8 * n) (omega arith))
