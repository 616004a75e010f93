-- No tap that a filter size reads lies outside of the frame: so the page is never asked for a sample that a plane does not have.
-- Assumes nothing.
use Rattle.std.specs.Prelude.{◌≡◌, refl, Bool, true, false, cond, not, ◌&&◌, ◌||◌, ℕ, zero, suc, ◌+◌, ◌-◌, ◌*◌, ◌/◌, ◌%◌, ◌≤◌, ◌<◌, min, T, eqb, leb, ltb}
use Rattle.std.proofs.Common.{sym, subst, ⊎_elim, arith, eqb-true, leb-false, ltb-false, eq-eqb}
use Rattle.std.proofs.lemmas.Bool.{eqb-false, not-true, not-false}
use Rattle.base.specs.First.{found, found-false}
use Rattle.base.specs.Notation.{◌<<◌, ◌>>◌}
use Rattle.base.specs.Tests.{neither, either, both}
use Rattle.section_8_8.specs.LoopFilterProcess.{Frame, sub_x, sub_y, num8x8_blocks_wide, num8x8_blocks_high, sb_size, is_intra, x, y, loop_col, loop_row, mi_size, tx_sz, is_block_edge, is_tx_edge, on_screen, apply_filter, filter_size}

-- the taps of each side that a filter size reads: p3 to q3, or p7 to q7
abbrev pub taps_read : (filter_size : ℕ) → ℕ
taps_read filter_size = cond (ltb filter_size 2) 4 8

-- the width and the height of a plane
abbrev pub plane_width : Frame → (plane : ℕ) → ℕ
plane_width f plane = (8 * f.mi_cols) >> sub_x f plane

abbrev pub plane_height : Frame → (plane : ℕ) → ℕ
plane_height f plane = (8 * f.mi_rows) >> sub_y f plane

-- ---- along one coordinate: v in luma samples, s its subsampling, count the cells

-- v is where an edge of a superblock can be: r samples on each side of it are in the plane
record Room (v s count r : ℕ) : Type 0 where
  before : r ≤ v >> s
  behind : (v >> s) + r ≤ (8 * count) >> s

-- edges are 4 samples of the plane apart
room_4 : (start edge s count : ℕ) → s ≤ 1 → start % 8 ≡ 0 → start * 8 + edge * (4 << s) < 8 * count → (start * 8 + edge * (4 << s) ≡ 0 → ⊥) → Room (start * 8 + edge * (4 << s)) s count 4
room_4 start edge zero count h e below some = record { before = omega arith; behind = omega arith }
room_4 start edge (suc zero) count h e below some = record { before = omega arith; behind = omega arith }
room_4 start edge (suc (suc s)) count h e below some = absurd (omega arith)

-- an edge on the grid of 8 samples of the plane has 8 on each side, but for the last column of an odd number of subsampled ones
room_8 : (v s count : ℕ) → s ≤ 1 → v % (8 << s) ≡ 0 → v < 8 * count → (v ≡ 0 → ⊥) → (s ≡ 1 → v >> 3 ≡ count - 1 → ⊥) → Room v s count 8
room_8 v zero count h e below some last = record { before = omega arith; behind = omega arith }
room_8 v (suc zero) count h e below some last =
    let other : v / 8 ≡ count - 1 → ⊥ = last refl in
    record { before = omega arith; behind = omega arith }
room_8 v (suc (suc s)) count h e below some last = absurd (omega arith)

-- ---- edges on the grid of 8

-- a block is 1, 2, 4 or 8 cells wide, and not 1 where it counts as 16 by 16 at least
abbrev fits : (s w : ℕ) → Bool
fits s w = (eqb s 0 && eqb w 1) || eqb w 2 || eqb w 4 || eqb w 8

wide_fits : (s mi_size : ℕ) → s ≤ 1 → mi_size ≤ 12 → (fits s (num8x8_blocks_wide (sb_size s mi_size)) ≡ true) × (fits s (num8x8_blocks_high (sb_size s mi_size)) ≡ true)
unfolding sb_size found
wide_fits zero mi_size h k = (
  not-false _ (found-false (λ m. not (fits 0 (num8x8_blocks_wide (sb_size 0 m)))) 13 refl mi_size (omega arith)),
  not-false _ (found-false (λ m. not (fits 0 (num8x8_blocks_high (sb_size 0 m)))) 13 refl mi_size (omega arith)),
)
wide_fits (suc zero) mi_size h k = (
  not-false _ (found-false (λ m. not (fits 1 (num8x8_blocks_wide (sb_size 1 m)))) 13 refl mi_size (omega arith)),
  not-false _ (found-false (λ m. not (fits 1 (num8x8_blocks_high (sb_size 1 m)))) 13 refl mi_size (omega arith)),
)
wide_fits (suc (suc s)) mi_size h k = absurd (omega arith)

-- so an edge of a block is on the grid
block_grid : (v s w : ℕ) → s ≤ 1 → fits s w ≡ true → v % (8 * w) ≡ 0 → v % (8 << s) ≡ 0
block_grid v s w h e d = one (eqb w 1) (eqb w 2) (eqb w 4) (eqb w 8) refl refl refl refl
  where
    at : (k : ℕ) → eqb w k ≡ true → v % (8 * k) ≡ 0
    at k q = subst (λ (m : ℕ). v % (8 * m) ≡ 0) (eqb-true w k q) d

    grid : (t : ℕ) → t ≤ 1 → v % 16 ≡ 0 → v % (8 << t) ≡ 0
    grid zero l z = omega arith
    grid (suc zero) l z = z
    grid (suc (suc t)) l z = absurd (omega arith)

    single : (t : ℕ) → (b : Bool) → eqb t 0 ≡ b → ((b && true) || false || false || false) ≡ true → eqb w 1 ≡ true → v % (8 << t) ≡ 0
    single t true z c q = rw (eqb-true t 0 z) (at 1 q)
    single t false z c q = absurd (subst T (sym c) tt)

    one : (a b c f : Bool) → eqb w 1 ≡ a → eqb w 2 ≡ b → eqb w 4 ≡ c → eqb w 8 ≡ f → v % (8 << s) ≡ 0
    one a b c true p q r z = let m = at 8 z in grid s h (omega arith)
    one a b true false p q r z = let m = at 4 r in grid s h (omega arith)
    one a true false false p q r z = grid s h (at 2 q)
    one true false false false p q r z = single s (eqb s 0) refl (rw (p, q, r, z) at e) p
    one false false false false p q r z = absurd (none (eqb s 0) (rw (p, q, r, z) at e))
      where
        none : (b : Bool) → ((b && false) || false || false || false) ≡ true → ⊥
        none true c = subst T (sym c) tt
        none false c = subst T (sym c) tt

-- and so is an edge of a transform of 16 samples or more
transform_grid : (start edge s t : ℕ) → s ≤ 1 → start % 8 ≡ 0 → 2 ≤ t → t ≤ 3 → edge % (1 << t) ≡ 0 → (start * 8 + edge * (4 << s)) % (8 << s) ≡ 0
transform_grid start edge s t h e low high d = by s h (quarter t low high d)
  where
    quarter : (t : ℕ) → 2 ≤ t → t ≤ 3 → edge % (1 << t) ≡ 0 → edge % 4 ≡ 0
    quarter zero low high d = absurd (omega arith)
    quarter (suc zero) low high d = absurd (omega arith)
    quarter (suc (suc zero)) low high d = d
    quarter (suc (suc (suc zero))) low high d = omega arith
    quarter (suc (suc (suc (suc t)))) low high d = absurd (omega arith)

    by : (s : ℕ) → s ≤ 1 → edge % 4 ≡ 0 → (start * 8 + edge * (4 << s)) % (8 << s) ≡ 0
    by zero h q = omega arith
    by (suc zero) h q = omega arith
    by (suc (suc s)) h q = absurd (omega arith)

-- ---- one position

-- the taps that a size reads have room, where those of the largest size have it
room : (start edge s count size : ℕ) → s ≤ 1 → start % 8 ≡ 0 → start * 8 + edge * (4 << s) < 8 * count → (start * 8 + edge * (4 << s) ≡ 0 → ⊥)
    → (ltb size 2 ≡ false → ((start * 8 + edge * (4 << s)) % (8 << s) ≡ 0) × (s ≡ 1 → (start * 8 + edge * (4 << s)) >> 3 ≡ count - 1 → ⊥))
    → Room (start * 8 + edge * (4 << s)) s count (taps_read size)
room start edge s count size h e below some large = cases (ltb size 2) refl
  where
    cases : (b : Bool) → ltb size 2 ≡ b → Room (start * 8 + edge * (4 << s)) s count (cond b 4 8)
    cases true z = room_4 start edge s count h e below some
    cases false z = let l = large z in room_8 _ s count h l.0 below some l.1

-- 8.8.3 gives 2 to transforms of 16 samples or more alone, and not at the last column or row
abbrev size_of : (t : ℕ) (is32 last : Bool) → ℕ
size_of t is32 last = cond (eqb (cond (eqb t 0 && is32) 1 (min 2 t)) 2 && last) 1 (cond (eqb t 0 && is32) 1 (min 2 t))

size_2 : (t : ℕ) (is32 last : Bool) → ltb (size_of t is32 last) 2 ≡ false → (2 ≤ t) × (last ≡ false)
size_2 t is32 last e = cases (eqb t 0 && is32) last refl e
  where
    low : {A : Type 0} → true ≡ false → A
    low z = absurd (subst T z tt)

    cases : (a l : Bool) → last ≡ l → ltb (cond (eqb (cond a 1 (min 2 t)) 2 && l) 1 (cond a 1 (min 2 t))) 2 ≡ false → (2 ≤ t) × (last ≡ false)
    cases true true q z = low z
    cases true false q z = low z
    cases false l q z = by (eqb (min 2 t) 2) l refl q z
      where
        by : (b l : Bool) → eqb (min 2 t) 2 ≡ b → last ≡ l → ltb (cond (b && l) 1 (min 2 t)) 2 ≡ false → (2 ≤ t) × (last ≡ false)
        by true true p q z = low z
        by true false p q z = let m = eqb-true (min 2 t) 2 p in (omega arith, q)
        by false true p q z = let m = ltb-false (min 2 t) 2 z in let n = eqb-false (min 2 t) 2 p in absurd (omega arith)
        by false false p q z = let m = ltb-false (min 2 t) 2 z in let n = eqb-false (min 2 t) 2 p in absurd (omega arith)

-- r taps on each side of the line whose q0 is at (px, py) are in the plane
pub record InPlane (f : Frame) (plane pass px py r : ℕ) : Type 0 where
  pub left : (1 - pass) * r ≤ px
  pub right : px + (1 - pass) * r ≤ plane_width f plane
  pub above : pass * r ≤ py
  pub below : py + pass * r ≤ plane_height f plane
  pub in_x : px < plane_width f plane
  pub in_y : py < plane_height f plane

-- the grid of 8 by step 14: a block edge, or an edge of a large transform
filtered-grid : (start edge s t w : ℕ) (block transform filtered : Bool) → s ≤ 1 → start % 8 ≡ 0 → 2 ≤ t → t ≤ 3 → fits s w ≡ true
    → (block ≡ true → (start * 8 + edge * (4 << s)) % (8 * w) ≡ 0) → (transform ≡ true → edge % (1 << t) ≡ 0)
    → (block || transform && filtered) ≡ true → (start * 8 + edge * (4 << s)) % (8 << s) ≡ 0
filtered-grid start edge s t w block transform filtered h e low high f on-block on-transform a =
    ⊎_elim
    (λ b. block_grid _ s w h f (on-block b))
    (λ b. transform_grid start edge s t h e low high (on-transform (both transform filtered b).0))
    (either block (transform && filtered) a)

-- a transform edge by step 11
on_multiple : (f : Frame) (plane pass row col edge i : ℕ) → is_tx_edge f plane pass row col edge i ≡ true → edge % (1 << tx_sz f plane pass row col edge i) ≡ 0
unfolding is_tx_edge
on_multiple f plane pass row col edge i =
    let odd_end = eqb (sub_x f plane) 1 && eqb (f.mi_cols % 2) 1 && eqb (edge % 2) 1 && leb (f.mi_cols * 8) (x f plane pass row col edge i + 8) in
    by (eqb pass 1 && odd_end)
  where
    by : (last : Bool) → cond last false (eqb (edge % (1 << tx_sz f plane pass row col edge i)) 0) ≡ true → edge % (1 << tx_sz f plane pass row col edge i) ≡ 0
    by true e = absurd (subst T (sym e) tt)
    by false e = eqb-true _ 0 e

-- steps 8 and 9, as step 14 joins them
abbrev coded : Frame → (plane pass row col edge i : ℕ) → Bool
coded f plane pass row col edge i =
    let row' = loop_row f plane pass row col edge i in
    let col' = loop_col f plane pass row col edge i in
    is_intra (f.ref_frame row' col') || not (f.skip row' col')

-- a luma coordinate in the frame is in the plane
in_frame : (v s count : ℕ) → s ≤ 1 → v < 8 * count → (v >> s) < (8 * count) >> s
in_frame v zero count h l = omega arith
in_frame v (suc zero) count h l = omega arith
in_frame v (suc (suc s)) count h l = absurd (omega arith)

-- off the last column or row, by 8.8.3
off_last : (s v count : ℕ) → (eqb s 1 && eqb (v >> 3) (count - 1)) ≡ false → s ≡ 1 → v >> 3 ≡ count - 1 → ⊥
off_last s v count e p q = subst T (rw (eq-eqb s 1 p, eq-eqb (v >> 3) (count - 1) q) at e) tt

-- across an edge that step 14 filters with the size of 8.8.3
across : (start edge s count t w : ℕ) (is32 last transform filtered : Bool) →
    let v : ℕ = start * 8 + edge * (4 << s) in
    s ≤ 1 → start % 8 ≡ 0 → t ≤ 3 → fits s w ≡ true → v < 8 * count → (v ≡ 0 → ⊥)
    → (eqb (v % (8 * w)) 0 || transform && filtered) ≡ true → (transform ≡ true → edge % (1 << t) ≡ 0)
    → (last ≡ false → s ≡ 1 → v >> 3 ≡ count - 1 → ⊥)
    → Room v s count (taps_read (size_of t is32 last))
across start edge s count t w is32 last transform filtered h e high f below some a on-transform off =
    room start edge s count (size_of t is32 last) h e below some (λ z. (
      filtered-grid start edge s t w _ transform filtered h e (size_2 t is32 last z).0 high f (eqb-true _ 0) on-transform a,
      off (size_2 t is32 last z).1,
    ))

-- what step 13 leaves: a coordinate across the edge that is not 0, and both in the frame
record Seen (v other count others : ℕ) : Type 0 where
  here : v < 8 * count
  there : other < 8 * others
  some : v ≡ 0 → ⊥

seen_0 : (v other count others : ℕ) → not (leb (8 * count) v || leb (8 * others) other || (true && eqb v 0) || (false && eqb other 0)) ≡ true → Seen v other count others
seen_0 v other count others e =
    let a = neither _ (not-true _ e) in
    let b = neither _ a.0 in
    let c = neither _ b.0 in
    record { here = leb-false _ _ c.0; there = leb-false _ _ c.1; some = eqb-false v 0 b.1 }

seen_1 : (v other count others : ℕ) → not (leb (8 * others) other || leb (8 * count) v || (false && eqb other 0) || (true && eqb v 0)) ≡ true → Seen v other count others
seen_1 v other count others e =
    let a = neither _ (not-true _ e) in
    let b = neither _ a.0 in
    let c = neither _ b.0 in
    record { here = leb-false _ _ c.1; there = leb-false _ _ c.0; some = eqb-false v 0 a.1 }

pub taps_in_plane : (f : Frame) (plane pass row col edge i : ℕ) → pass ≤ 1 → sub_x f plane ≤ 1 → sub_y f plane ≤ 1 → row % 8 ≡ 0 → col % 8 ≡ 0
    → mi_size f plane pass row col edge i ≤ 12 → tx_sz f plane pass row col edge i ≤ 3
    → apply_filter f plane pass row col edge i ≡ true
    → InPlane f plane pass (x f plane pass row col edge i >> sub_x f plane) (y f plane pass row col edge i >> sub_y f plane) (taps_read (filter_size f plane pass row col edge i))
unfolding apply_filter on_screen is_block_edge filter_size x y
taps_in_plane f plane zero row col edge i h sx sy r c small tx a =
    let s = both _ _ a in
    let seen = seen_0 _ _ f.mi_cols f.mi_rows s.0 in
    let q : Room (x f plane 0 row col edge i) (sub_x f plane) f.mi_cols (taps_read (filter_size f plane 0 row col edge i)) =
    across col edge (sub_x f plane) f.mi_cols _ _ _ _ (is_tx_edge f plane 0 row col edge i) (coded f plane 0 row col edge i) sx c tx (wide_fits (sub_x f plane) _ sx small).0 seen.here seen.some s.1
    (on_multiple f plane 0 row col edge i)
    (λ z. off_last (sub_x f plane) _ f.mi_cols (neither _ z).0) in
    let in_y = in_frame _ (sub_y f plane) f.mi_rows sy seen.there in
    let in_x = in_frame _ (sub_x f plane) f.mi_cols sx seen.here in
    record { left = omega arith; right = omega arith; above = omega arith; below = omega arith; in_x = in_x; in_y = in_y }
taps_in_plane f plane (suc zero) row col edge i h sx sy r c small tx a =
    let s = both _ _ a in
    let seen = seen_1 _ _ f.mi_rows f.mi_cols s.0 in
    let q : Room (y f plane 1 row col edge i) (sub_y f plane) f.mi_rows (taps_read (filter_size f plane 1 row col edge i)) =
    across row edge (sub_y f plane) f.mi_rows _ _ _ _ (is_tx_edge f plane 1 row col edge i) (coded f plane 1 row col edge i) sy r tx (wide_fits (sub_y f plane) _ sy small).1 seen.here seen.some s.1
    (on_multiple f plane 1 row col edge i)
    (λ z. off_last (sub_y f plane) _ f.mi_rows z) in
    let in_y = in_frame _ (sub_y f plane) f.mi_rows sy seen.here in
    let in_x = in_frame _ (sub_x f plane) f.mi_cols sx seen.there in
    record { left = omega arith; right = omega arith; above = omega arith; below = omega arith; in_x = in_x; in_y = in_y }
taps_in_plane f plane (suc (suc pass)) row col edge i h sx sy r c small tx a = absurd (omega arith)
