-- A chunk filtered in lanes is its positions in turn.
-- Assumes nothing.
use Rattle.std.specs.Prelude.{◌≡◌, refl, Bool, true, false, List, ◌⊎◌, ℕ, ◌+◌, ◌-◌, ◌*◌, ◌≤◌, ◌<◌, leb, length, get_or, ◌||◌}
use Rattle.std.specs.List.{fold}
use Rattle.std.proofs.Common.{sym, ◌∙◌, inl, inr, ⊎_elim, arith, leb-false}
use Rattle.base.specs.First.{found-false}
use Rattle.byte_lanes.specs.ByteLanes.{beyond, Filtered}
use Rattle.byte_lanes.specs.declared.Changed.{Changed}
use Rattle.byte_lanes.specs.declared.Changed.TheVariants.{Nothing}
use Rattle.byte_rows.specs.Rows.{reach}
use Rattle.lane_runs.specs.LaneRunLaws.{each_lane_stored, each_lane_kept}
use Rattle.lane_runs.specs.Local.{Local, local_all, local_wider, key_local}
use Rattle.lane_runs.specs.Spread.{Spread, SpacedRun, Taken}
use Rattle.lanes.specs.KeyLine.{key_line}
use Rattle.lanes.specs.Lanes.{lane_of, EachLane}
use Rattle.wide_filter.specs.Taps.{tap}
use Rattle.window.specs.InsideRun.{plain_lines}
use Rattle.window.specs.Stencil.{in_turn}
use Rattle.byte_chunks.specs.Chunk.{any_large}
use Rattle.byte_lanes.specs.FoundLaws.{fold_found}

-- as the code looks for one
pub any_large_fold : (keys : List ℕ) → length keys ≡ 16 → fold (λ on key. on || leb 128 key) false keys ≡ any_large keys
any_large_fold keys long = rw long at (fold_found (λ key. leb 128 key) 0 keys)

reach_few : (all : Bool) → reach all ≤ 8
reach_few true = omega arith
reach_few false = omega arith

-- where no key has size 2 none reads or changes a tap beyond p3 and q3
keys_local : (sharpness : ℕ) (keys : List ℕ) (all : Bool) → all ≡ any_large keys → (l : ℕ) → l < 16 → Local (reach all) (reach all) (key_line sharpness 8 (get_or keys l 0))
keys_local sharpness keys true is l h = local_all (key_line sharpness 8 (get_or keys l 0))
keys_local sharpness keys false is l h =
    let small : get_or keys l 0 < 128 = leb-false _ _ (found-false (λ l. leb 128 (get_or keys l 0)) 16 (sym is) l h) in
    local_wider (omega arith) (omega arith) (omega arith) (omega arith) (key_local sharpness 8 (get_or keys l 0) 1 (omega arith))

module _ (at step along n sharpness : ℕ) (keys : List ℕ) (all : Bool) (is : all ≡ any_large keys) (w t t' : List ℕ) (changed : Changed) (run : SpacedRun at step along n w)
    (loaded : Taken at step along n (8 - reach all) (2 * reach all) w t) (filtered : Filtered sharpness keys t t' changed) where
  abbrev lines : ℕ → List ℕ → List ℕ
  lines l = key_line sharpness 8 (get_or keys l 0)

  local : (l : ℕ) → l < n → Local (reach all) (reach all) (lines l)
  local l h = keys_local sharpness keys all is l (omega (arith, run.few))

  lanes : EachLane n lines t t'
  lanes = record { each = λ l h. filtered.lanes.each l (omega (arith, run.few)) }

  -- taps that are not loaded do not change
  within : (b : Bool) → all ≡ b → reach (beyond changed) ≤ reach b
  within true e = reach_few (beyond changed)
  within false e = rw (filtered.large (sym is ∙ e)) (omega arith)

  same : (b : Bool) → beyond changed ≡ b → (l k : ℕ) → l < n → k < 16 → (k + reach b < 8) ⊎ (8 + reach b ≤ k) → tap (lane_of t' l) k ≡ tap (lane_of t l) k
  same true e l k a b o = absurd (⊎_elim (λ p. omega arith) (λ p. omega arith) o)
  same false e l k a b o =
      filtered.inner e l k (omega (arith, run.few)) (⊎_elim (λ p. inl (omega arith)) (λ p. inr (omega arith)) o)

  pub chunk_run : (b : Bool) → beyond changed ≡ b → (u : List ℕ) → Spread at step along n (8 - reach b) (2 * reach b) (λ l k. get_or t' (16 * k + l) 0) w u → u ≡ in_turn (plain_lines at step along lines) n w
  chunk_run b e u stored =
      each_lane_stored lines (reach all) (reach b) (rw e at (within all refl)) (reach_few all) at step along n local w t t' run loaded lanes (same b e) u stored

  -- where no lane changes nothing need be stored
  pub chunk_kept : changed ≡ Nothing → w ≡ in_turn (plain_lines at step along lines) n w
  chunk_kept e =
      each_lane_kept lines (reach all) (reach all) (omega arith) (reach_few all) at step along n local w t t' run loaded lanes (filtered.none e)
