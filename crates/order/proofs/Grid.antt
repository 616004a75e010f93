-- What the members of a grid are, and in which order they stand.
-- Assumes nothing.
use Rattle.std.specs.Prelude.{◌≡◌, ◌⊎◌, ℕ, zero, suc, ◌+◌, ◌*◌, ◌≤◌, ◌<◌, length}
use Rattle.std.proofs.Common.{◌∙◌, inl, inr, suc-add, suc-mul, zero-add, zero-mul, arith, length-append, ◌++◌, append_assoc}
use mathlib.Core.List.Memᴰ
use mathlib.Core.List.{Memᴰ}
use Rattle.std.proofs.Math.Decide.{ℕ_discrete}
use Rattle.order.specs.Order.{Before, Before-now, Before-later}
use Rattle.order.specs.Grid.{Cell, Halves, Halves-left, Halves-right, Halves-across, before_append, grid, mem_strip, strip, strip_length, strip_mem, strips}

module _ {A : Type 0} (mk : ℕ → ℕ → A) where
  strips_mem : (e n k : ℕ) {x : A} → Memᴰ x ((strips mk) e n k) → (Cell mk) x e (e + n) 0 k
  strips_mem e zero k {x = x} m = elim m [ ]
  strips_mem e (suc n) k {x} m = go (Memᴰ.append_cases ((strip mk) e 0 k) m) (strips_mem (suc e) n k)
    where
      go : Memᴰ x ((strip mk) e 0 k) ⊎ Memᴰ x ((strips mk) (suc e) n k) → (Memᴰ x ((strips mk) (suc e) n k) → (Cell mk) x (suc e) (suc e + n) 0 k) → (Cell mk) x e (e + suc n) 0 k
      go (inl u) ih = let r = (strip_mem mk) e 0 k u in record { e = r.e; i = r.i; is = r.is; low = r.low; high = omega arith; from = r.from; to = omega arith }
      go (inr u) ih = let r = ih u in record { e = r.e; i = r.i; is = r.is; low = omega arith; high = omega arith; from = r.from; to = r.to }

  mem_strips : (e n k f j : ℕ) → e ≤ f → f < e + n → j < k → Memᴰ (mk f j) ((strips mk) e n k)
  mem_strips e zero k f j h l b = absurd (omega arith)
  mem_strips e (suc n) k f j h l b = go (ℕ_discrete f e) (mem_strips (suc e) n k f j)
    where
      go : Dec (f ≡ e) → (suc e ≤ f → f < suc e + n → j < k → Memᴰ (mk f j) ((strips mk) (suc e) n k)) → Memᴰ (mk f j) ((strips mk) e (suc n) k)
      go (yes d) ih = Memᴰ.append_left {s = (strip mk) e 0 k} ((strips mk) (suc e) n k) (rw d ((mem_strip mk) e 0 k j (omega arith) (omega arith)))
      go (no g) ih = Memᴰ.append_right ((strip mk) e 0 k) (ih (omega arith) (omega arith) b)

  pub grid_mem : (n k : ℕ) {x : A} → Memᴰ x ((grid mk) n k) → (Cell mk) x 0 (0 + n) 0 k
  grid_mem n k m = strips_mem 0 n k m

  -- what holds of each pair holds of each member
  pub grid_all : (P : A → Type 0) (n k : ℕ) → ((e i : ℕ) → e < n → i < k → P (mk e i)) → (x : A) → Memᴰ x ((grid mk) n k) → P x
  grid_all P n k h x m = let r = grid_mem n k m in rw r.is (h r.e r.i (omega arith) r.to)

  pub mem_grid : (n k f j : ℕ) → f < n → j < k → Memᴰ (mk f j) ((grid mk) n k)
  mem_grid n k f j h b = mem_strips 0 n k f j (omega arith) (omega arith) b

  pub strips_split : (e n m k j : ℕ) → j ≡ e + n → (strips mk) e (n + m) k ≡ (strips mk) e n k ++ (strips mk) j m k
  strips_split e zero m k j h = let d : j ≡ e = omega arith in rw (zero-add, d)
  strips_split e (suc n) m k j h =
      let ih = strips_split (suc e) n m k j (omega arith) in
      rw (suc-add, append_assoc) (λ x. (strip mk) e 0 k ++ ih x)

  strips-length : (e n k : ℕ) → length ((strips mk) e n k) ≡ n * k
  strips-length e zero k = rw zero-mul
  strips-length e (suc n) k =
      length-append ((strip mk) e 0 k) ((strips mk) (suc e) n k) ∙ (rw ((strip_length mk) e 0 k, strips-length (suc e) n k, suc-mul n k) (omega arith))

  pub grid-length : (n k : ℕ) → length ((grid mk) n k) ≡ n * k
  grid-length n k = strips-length 0 n k

  -- a relation that holds from a pair to each later one of its strip, and to all of the later strips, holds along the grid
  module _ (R : A → A → Type 0) (along : (e i j : ℕ) → i < j → R (mk e i) (mk e j)) (down : (e f i j : ℕ) → e < f → R (mk e i) (mk f j)) where
    strip_before : (e i n : ℕ) {x y : A} → Before x y ((strip mk) e i n) → R x y
    strip_before e i zero {x = x} {y = y} m = elim m [ ]
    strip_before e i (suc n) {x} {y} (Before-now d m) =
        let r = (strip_mem mk) e (suc i) n m in
        let same : r.e ≡ e = omega arith in
        rw (d, r.is, same) (along e i r.i (omega arith))
    strip_before e i (suc n) (Before-later q) = strip_before e (suc i) n q

    strips_before : (e n k : ℕ) {x y : A} → Before x y ((strips mk) e n k) → R x y
    strips_before e zero k {x = x} {y = y} r = elim r [ ]
    strips_before e (suc n) k {x} {y} r = go (before_append ((strip mk) e 0 k) ((strips mk) (suc e) n k) r) (strips_before (suc e) n k)
      where
        go : Halves x y ((strip mk) e 0 k) ((strips mk) (suc e) n k) → (Before x y ((strips mk) (suc e) n k) → R x y) → R x y
        go (Halves-left u) ih = strip_before e 0 k u
        go (Halves-right u) ih = ih u
        go (Halves-across u v) ih =
            let a = (strip_mem mk) e 0 k u in
            let b = strips_mem (suc e) n k v in
            rw (a.is, b.is) (down a.e b.e a.i b.i (omega arith))

    pub grid_before : (n k : ℕ) {x y : A} → Before x y ((grid mk) n k) → R x y
    grid_before n k r = strips_before 0 n k r
