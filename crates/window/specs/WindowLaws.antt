-- Laws of the window: what its test leaves, and where its samples lie.
-- Assumes nothing.
use Rattle.std.specs.Prelude.{◌≡◌, refl, Bool, true, false, ◌&&◌, ◌||◌, ℕ, ◌+◌, ◌-◌, ◌*◌, ◌≤◌, ◌<◌, T, eqb, leb, ltb}
use Rattle.std.proofs.Common.{sym, ◌∙◌, subst, suc-mul, mul-le-mul_right, arith, ltb-false, leb-true, ltb-true, lt-ltb, le-ltb, le-leb, ne_eqb}
use Rattle.std.proofs.Math.Bool.{or-false}
use Rattle.std.proofs.Math.Decide.{dec_lt}
use Rattle.std.proofs.lemmas.Bool.{eqb-false}
use Rattle.base.specs.Tests.{neither, both}
use Rattle.window.specs.Window.{bad_window, place, clamp, among}
use Rattle.window.specs.declared.WindowShape.{WindowShape}

-- what test 12 leaves, of a window with n samples lent
pub record Lent (g : WindowShape) (n : ℕ) : Type 0 where
  pub wide : 0 < g.width
  pub right : g.width ≤ 65536
  pub tall : 0 < g.height
  pub bottom : g.top + g.height ≤ 65536
  pub rows : g.width ≤ g.stride
  pub far : g.stride ≤ 131072
  pub room : (g.height - 1) * g.stride + g.width ≤ n

pub lent : (g : WindowShape) (n : ℕ) → bad_window g n ≡ false → Lent g n
unfolding bad_window
lent g n e =
    let w0 : Bool = eqb g.width 0 in
    let w1 : Bool = ltb 65536 g.width in
    let h0 : Bool = eqb g.height 0 in
    let h1 : Bool = ltb 65536 (g.top + g.height) in
    let s0 : Bool = ltb g.stride g.width in
    let s1 : Bool = ltb 131072 g.stride in
    let t6 = neither (w0 || w1 || h0 || h1 || s0 || s1) e in
    let t5 = neither (w0 || w1 || h0 || h1 || s0) t6.0 in
    let t4 = neither (w0 || w1 || h0 || h1) t5.0 in
    let t3 = neither (w0 || w1 || h0) t4.0 in
    let t2 = neither (w0 || w1) t3.0 in
    let t1 = neither w0 t2.0 in
    let wide = eqb-false g.width 0 t1.0 in
    let tall = eqb-false g.height 0 t2.1 in
    record {
      wide = omega arith;
      right = ltb-false 65536 g.width t1.1;
      tall = omega arith;
      bottom = ltb-false 65536 (g.top + g.height) t3.1;
      rows = ltb-false g.stride g.width t4.1;
      far = ltb-false 131072 g.stride t5.1;
      room = ltb-false n ((g.height - 1) * g.stride + g.width) t6.1;
    }

-- numbers from which the samples cannot be counted: test 12 holds
abbrev pub uncountable : WindowShape → Bool
uncountable g = eqb g.height 0 || ltb 65536 g.width || ltb 65536 g.height || ltb 65536 g.top || ltb 131072 g.stride

countable : (g : WindowShape) (n : ℕ) → Lent g n → uncountable g ≡ false
countable g n w =
    rw (
      ne_eqb g.height 0 (λ e. omega (arith, w.tall)),
      le-ltb 65536 g.width w.right,
      le-ltb 65536 g.height (omega (arith, w.bottom)),
      le-ltb 65536 g.top (omega (arith, w.bottom)),
      le-ltb 131072 g.stride w.far,
    )

pub bad_uncountable : (g : WindowShape) (n : ℕ) → uncountable g ≡ true → true ≡ bad_window g n
bad_uncountable g n e = cases (bad_window g n) refl
  where
    cases : (b : Bool) → bad_window g n ≡ b → true ≡ bad_window g n
    cases true d = sym d
    cases false d = absurd (subst T (sym e ∙ countable g n (lent g n d)) tt)

pub record Countable (g : WindowShape) : Type 0 where
  pub tall : 0 < g.height
  pub width : g.width ≤ 65536
  pub height : g.height ≤ 65536
  pub top : g.top ≤ 65536
  pub stride : g.stride ≤ 131072

pub counted : (g : WindowShape) → uncountable g ≡ false → Countable g
counted g e =
    let h0 : Bool = eqb g.height 0 in
    let w1 : Bool = ltb 65536 g.width in
    let h1 : Bool = ltb 65536 g.height in
    let t4 = neither (h0 || w1 || h1 || ltb 65536 g.top) e in
    let t3 = neither (h0 || w1 || h1) t4.0 in
    let t2 = neither (h0 || w1) t3.0 in
    let t1 = neither h0 t2.0 in
    let tall = eqb-false g.height 0 t1.0 in
    record {
      tall = omega arith;
      width = ltb-false 65536 g.width t1.1;
      height = ltb-false 65536 g.height t2.1;
      top = ltb-false 65536 g.top t3.1;
      stride = ltb-false 131072 g.stride t4.1;
    }

-- where they can be counted, the other tests are the test
pub bad_countable : (g : WindowShape) (n : ℕ) → uncountable g ≡ false
    → eqb g.width 0 || ltb 65536 (g.top + g.height) || ltb g.stride g.width || ltb n ((g.height - 1) * g.stride + g.width) ≡ bad_window g n
unfolding bad_window
bad_countable g n e =
    let k = counted g e in
    rw (
      ne_eqb g.height 0 (λ e. omega (arith, k.tall)),
      le-ltb 65536 g.width k.width,
      le-ltb 131072 g.stride k.stride,
      or-false (eqb g.width 0),
      or-false (eqb g.width 0),
      or-false (eqb g.width 0 || ltb 65536 (g.top + g.height) || ltb g.stride g.width),
    )

-- the plane's sample (x, y) is in the window
pub record Inside (g : WindowShape) (x y : ℕ) : Type 0 where
  pub right : x < g.width
  pub above : g.top ≤ y
  pub below : y < g.top + g.height

-- it is lent
pub place_lent : (g : WindowShape) (n x y : ℕ) → Lent g n → Inside g x y → place g x y < n
place_lent g n x y s i =
    let h : y - g.top ≤ g.height - 1 = omega arith in
    omega (arith, mul-le-mul_right g.stride h)

-- a place has one row and one column
pub row_unique : (a b s x z : ℕ) → x < s → z < s → a * s + x ≡ b * s + z → a ≡ b
row_unique a b s x z h k e = go (dec_lt a b) (dec_lt b a)
  where
    under : (a' b' x' z' : ℕ) → a' < b' → x' < s → a' * s + x' ≡ b' * s + z' → ⊥
    under a' b' x' z' l m e' = omega (arith, suc-mul a' s, mul-le-mul_right s l)

    go : Dec (a < b) → Dec (b < a) → a ≡ b
    go (yes l) q = absurd (under a b x z l h e)
    go (no l) (yes q) = absurd (under b a z x q k (sym e))
    go (no l) (no q) = omega arith

pub place_unique : (g : WindowShape) → g.width ≤ g.stride → (x y x' y' : ℕ) → Inside g x y → Inside g x' y' → place g x y ≡ place g x' y' → (x ≡ x') × (y ≡ y')
place_unique g f x y x' y' i i' e =
    let r : y - g.top ≡ y' - g.top = row_unique (y - g.top) (y' - g.top) g.stride x x' (omega arith) (omega arith) e in
    let e' : (y' - g.top) * g.stride + x ≡ (y' - g.top) * g.stride + x' = rw r at e in
    (omega arith, omega arith)

-- a coordinate that is clamped is in the window
pub clamp_inside : (g : WindowShape) → 0 < g.width → 0 < g.height → (u v : ℕ) → Inside g (clamp 0 g.width u) (clamp g.top g.height v)
clamp_inside g w h u v = record { right = omega arith; above = omega arith; below = omega arith }

-- ---- the test of a range

pub among_yes : (lo n v : ℕ) → lo ≤ v → v < lo + n → among lo n v ≡ true
among_yes lo n v h k = rw (le-leb lo v h, lt-ltb v (lo + n) k)

pub among_in : (lo n v : ℕ) → among lo n v ≡ true → (lo ≤ v) × (v < lo + n)
among_in lo n v e = let b = both (leb lo v) (ltb v (lo + n)) e in (leb-true lo v b.0, ltb-true v (lo + n) b.1)

-- the tap at (u, v), each raised by 8, is in the window
pub record Tap (g : WindowShape) (u v : ℕ) : Type 0 where
  pub x_from : 8 ≤ u
  pub x_to : u < 8 + g.width
  pub y_from : 8 + g.top ≤ v
  pub y_to : v < 8 + g.top + g.height

pub tap_in : (g : WindowShape) (u v : ℕ) → (among 8 g.width u && among (8 + g.top) g.height v) ≡ true → Tap g u v
tap_in g u v e =
    let b = both (among 8 g.width u) (among (8 + g.top) g.height v) e in
    let x = among_in 8 g.width u b.0 in
    let y = among_in (8 + g.top) g.height v b.1 in
    record { x_from = x.0; x_to = x.1; y_from = y.0; y_to = y.1 }

pub tap_inside : (g : WindowShape) (u v : ℕ) → Tap g u v → Inside g (u - 8) (v - 8)
tap_inside g u v t = record { right = omega arith; above = omega arith; below = omega arith }
