-- The standard's step 17 by taps: which samples of a plane are taps of a line, and what storing a line does to them and to the others.
-- Assumes nothing.
use Rattle.std.specs.Prelude.{◌≡◌, refl, Bool, true, false, cond, ◌&&◌, ℕ, ◌+◌, ◌-◌, ◌*◌, ◌≤◌, ◌<◌, T, eqb, ltb}
use Rattle.std.proofs.Common.{sym, ap, ◌∙◌, subst, arith, eqb-true, eq-eqb, ltb-true, ltb-false, lt-ltb, le-ltb}
use Rattle.base.specs.First.{found, found-false, first_is}
use Rattle.base.specs.Tests.{both}
use Rattle.geometry.specs.FrameStandard.{pass_number}
use Rattle.geometry.specs.declared.Pass.{Pass}
use Rattle.geometry.specs.declared.Pass.TheVariants.{Vertical, Horizontal}
use Rattle.section_8_8.specs.LoopFilterProcess as Std
use Rattle.wide_filter.specs.Taps.{tap}
use Rattle.wide_filter.specs.WideFilterStandard.{taps_of, tap_p, tap_q}
use Rattle.window.specs.Window.{tap_x, tap_y}

-- tap k of the line whose q0 is at (x, y) is the sample (u, v)
pub record IsTap (pass : Pass) (x y k u v : ℕ) : Type 0 where
  pub column : u + 8 ≡ tap_x pass x k
  pub row : v + 8 ≡ tap_y pass y k

-- ---- the tap at coordinate u across an edge, where q0 is at x

-- it is on the one side or on the other
by_side : (P : ℕ → Type 0) (l : Std.Line) (x u : ℕ) → (u < x → P (l.p (x - 1 - u))) → (x ≤ u → P (l.q (u - x))) → P (Std.tap_at l x u)
by_side P l x u h g = cases (ltb u x) refl
  where
    cases : (t : Bool) → ltb u x ≡ t → P (cond t (l.p (x - 1 - u)) (l.q (u - x)))
    cases true e = h (ltb-true u x e)
    cases false e = g (ltb-false u x e)

-- one of the 16
near : (l : Std.Line) (x u k : ℕ) → k < 16 → u + 8 ≡ x + k → Std.tap_at l x u ≡ tap (taps_of l) k
near l x u k h e =
    by_side (λ (n : ℕ). n ≡ tap (taps_of l) k) l x u
    (λ g. let i : 7 - k ≡ x - 1 - u = omega arith in sym (rw i at (tap_p l k (omega arith))))
    (λ g. let i : k - 8 ≡ u - x = omega arith in sym (rw i at (tap_q l k (omega arith) h)))

-- two lines with the same taps from p7 and q7 on
pub record Beyond (l m : Std.Line) : Type 0 where
  pub p : (k : ℕ) → 7 ≤ k → l.p k ≡ m.p k
  pub q : (k : ℕ) → 7 ≤ k → l.q k ≡ m.q k

-- none of the 16
far : (l m : Std.Line) → Beyond l m → (x u : ℕ) → ((k : ℕ) → k < 16 → u + 8 ≡ x + k → ⊥) → Std.tap_at l x u ≡ Std.tap_at m x u
far l m b x u h =
    by_side (λ (n : ℕ). n ≡ Std.tap_at m x u) l x u
    (λ g. let n : ¬ (x - 1 - u < 7) = λ i. h (u + 8 - x) (omega arith) (omega arith) in b.p (x - 1 - u) (omega arith) ∙ rw (lt-ltb u x g))
    (λ g. let n : ¬ (u - x < 7) = λ i. h (u + 8 - x) (omega arith) (omega arith) in b.q (u - x) (omega arith) ∙ rw (le-ltb u x g))

-- ---- a vertical edge

-- what is read at u is what stands there
vertical_back : (x y u : ℕ) (s : Std.Plane) → Std.tap_at (Std.line_at 0 x y s) x u ≡ s u y
unfolding Std.line_at
vertical_back x y u s =
    by_side (λ (n : ℕ). n ≡ s u y) (Std.line_at 0 x y s) x u
    (λ h. let k : ℕ = x - 1 - u + 1 in let e : x - 1 * k ≡ u = omega arith in let d : y - 0 * k ≡ y = omega arith in rw (e, d))
    (λ h. let k : ℕ = u - x in let e : x + 1 * k ≡ u = omega arith in let d : y + 0 * k ≡ y = omega arith in rw (e, d))

vertical_tap : (x y k u v : ℕ) → k < 16 → IsTap Vertical x y k u v → (l : Std.Line) (s : Std.Plane) → Std.stored 0 x y l s u v ≡ tap (taps_of l) k
unfolding Std.stored
vertical_tap x y k u v h t l s = rw (eq-eqb v y (omega arith)) (near l x u k h t.column)

vertical_line : (x y k u v : ℕ) → k < 16 → IsTap Vertical x y k u v → (s : Std.Plane) → tap (taps_of (Std.line_at 0 x y s)) k ≡ s u v
vertical_line x y k u v h t s =
    let e : y ≡ v = omega arith in
    sym (near (Std.line_at 0 x y s) x u k h t.column) ∙ vertical_back x y u s ∙ ap (s u) e

vertical_far : (x y u v : ℕ) → ((k : ℕ) → k < 16 → IsTap Vertical x y k u v → ⊥) → (l : Std.Line) (s : Std.Plane) → Beyond l (Std.line_at 0 x y s) → Std.stored 0 x y l s u v ≡ s u v
unfolding Std.stored
vertical_far x y u v h l s b = cases (eqb v y) refl
  where
    cases : (t : Bool) → eqb v y ≡ t → cond t (Std.tap_at l x u) (s u v) ≡ s u v
    cases true e =
        let same = eqb-true v y e in
        far l (Std.line_at 0 x y s) b x u (λ k i d. h k i (record { column = d; row = omega arith }))
        ∙ vertical_back x y u s ∙ ap (s u) (sym same)
    cases false e = refl

-- ---- a horizontal edge is a vertical one of the plane with its coordinates exchanged

turned : {x y k u v : ℕ} → IsTap Horizontal x y k u v → IsTap Vertical y x k v u
turned t = record { column = t.row; row = t.column }

-- a tap of the line that is stored
pub stored_near : (pass : Pass) (x y k u v : ℕ) → k < 16 → IsTap pass x y k u v → (l : Std.Line) (s : Std.Plane) → Std.stored (pass_number pass) x y l s u v ≡ tap (taps_of l) k
unfolding Std.stored
stored_near Vertical x y k u v h t l s = vertical_tap x y k u v h t l s
stored_near Horizontal x y k u v h t l s = vertical_tap y x k v u h (turned t) l (λ a b. s b a)

-- and of the line that is read
pub line_near : (pass : Pass) (x y k u v : ℕ) → k < 16 → IsTap pass x y k u v → (s : Std.Plane) → tap (taps_of (Std.line_at (pass_number pass) x y s)) k ≡ s u v
unfolding Std.line_at
line_near Vertical x y k u v h t s = vertical_line x y k u v h t s
line_near Horizontal x y k u v h t s = vertical_line y x k v u h (turned t) (λ a b. s b a)

-- a sample that is no tap is left
pub stored_far : (pass : Pass) (x y u v : ℕ) → ((k : ℕ) → k < 16 → IsTap pass x y k u v → ⊥) → (l : Std.Line) (s : Std.Plane) → Beyond l (Std.line_at (pass_number pass) x y s)
    → Std.stored (pass_number pass) x y l s u v ≡ s u v
unfolding Std.stored Std.line_at
stored_far Vertical x y u v h l s b = vertical_far x y u v h l s b
stored_far Horizontal x y u v h l s b =
    vertical_far y x v u (λ k i t. h k i (record { column = t.row; row = t.column })) l (λ a c. s c a) b

-- ---- which tap a sample is

-- no two
pub same_tap : (pass : Pass) (x y j k u v : ℕ) → IsTap pass x y j u v → IsTap pass x y k u v → j ≡ k
same_tap Vertical x y j k u v s t = omega arith
same_tap Horizontal x y j k u v s t = omega arith

pub data Which (pass : Pass) (x y u v : ℕ) : Type 0 where
  one : (k : ℕ) → k < 16 → IsTap pass x y k u v → Which pass x y u v
  none : ((k : ℕ) → k < 16 → IsTap pass x y k u v → ⊥) → Which pass x y u v

pub which : (pass : Pass) (x y u v : ℕ) → Which pass x y u v
which pass x y u v = cases (found test 16) refl
  where
    test : ℕ → Bool
    test k = eqb (u + 8) (tap_x pass x k) && eqb (v + 8) (tap_y pass y k)

    yes : (k : ℕ) → IsTap pass x y k u v → test k ≡ true
    yes k t = rw (eq-eqb (u + 8) (tap_x pass x k) t.column, eq-eqb (v + 8) (tap_y pass y k) t.row)

    cases : (b : Bool) → found test 16 ≡ b → Which pass x y u v
    cases true e =
        let f = first_is test 16 e in
        let b = both (eqb (u + 8) (tap_x pass x _)) (eqb (v + 8) (tap_y pass y _)) f.holds in
        one _ f.to (record { column = eqb-true (u + 8) _ b.0; row = eqb-true (v + 8) _ b.1 })
    cases false e = none (λ k h t. subst T (sym (yes k t) ∙ found-false test 16 e k h) tt)
