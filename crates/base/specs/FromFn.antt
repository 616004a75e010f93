-- An array made by a function of the place, as the list of its values and as a list filled by place.
-- Assumes nothing.
use Rattle.std.specs.Prelude.{◌≡◌, List, map, ℕ, zero, suc, ◌+◌, ◌<◌, length, get_or, replicate}
use Rattle.std.specs.Array.{IsFromFnResult, IsFromFnResultFrom}
use Rattle.std.specs.List.{range_with_len}
use Rattle.std.proofs.Common.{sym, ◌∙◌, arith, add-zero, zero-add}
use Rattle.std.proofs.lemmas.List.{ext_get_or, length-replicate}
use Rattle.std.proofs.lemmas.List.FromFn.{fill_by_all}
use denote.Param.Members.{Mut, Called}
use Rattle.base.specs.Filled.{filled, filled_at, length-filled}

-- a closure that gives at each place i below n an entry of which P i holds, and keeps what it needs for that
module _ {F B : Type 0} (g : Mut F (ℕ × Unit {0}) B) (P : ℕ → B → Type 0) (Holds : F → Type 0) (n : ℕ) (gives : (p q : F) (i : ℕ) (y : B) → i < n → Holds p → Called g p (i, tt) y q → P i y × Holds q) where
  entries : (f : F) (ys : List B) (i m : ℕ) (d : B) → i + m ≡ n → Holds f → IsFromFnResultFrom g f ys i m → (k : ℕ) → k < m → P (i + k) (get_or ys (i + k) d)
  entries f ys i zero d e h r k l = absurd (omega arith)
  entries f ys i (suc m) d e h (q, y, at, call, rest) zero l = rw (add-zero i, at.1 d) (gives f q i y (omega arith) h call).0
  entries f ys i (suc m) d e h (q, y, at, call, rest) (suc k) l =
      let on : i + suc k ≡ i + 1 + k = omega arith in
      rw on (entries q ys (i + 1) m d (omega arith) (gives f q i y (omega arith) h call).1 rest k (omega arith))

  pub from_fn_each : (f : F) (ys : List B) (d : B) → Holds f → IsFromFnResult g f ys n → (k : ℕ) → k < n → P k (get_or ys k d)
  from_fn_each f ys d h r k l = rw (zero-add k) at (entries f ys 0 n d (zero-add n) h r.each k l)

-- one that gives t i
module _ {F B : Type 0} (g : Mut F (ℕ × Unit {0}) B) (t : ℕ → B) (Holds : F → Type 0) (gives : (p q : F) (i : ℕ) (y : B) → Holds p → Called g p (i, tt) y q → (y ≡ t i) × Holds q) where
  pub from_fn_values : (f : F) (ys : List B) (n : ℕ) (d : B) → Holds f → IsFromFnResult g f ys n → ys ≡ map t (range_with_len 0 n)
  from_fn_values f ys n d h r = fill_by_all t ys n d r.long (λ k l. from_fn_each g (λ i y. y ≡ t i) Holds n (λ p q i y b. gives p q i y) f ys d h r k l)

module _ {F : Type 0} (g : Mut F (ℕ × Unit {0}) ℕ) (t : ℕ → ℕ) (Holds : F → Type 0) (gives : (p q : F) (i y : ℕ) → Holds p → Called g p (i, tt) y q → (y ≡ t i) × Holds q) where
  pub from_fn_filled : (f : F) (ys : List ℕ) (n : ℕ) → Holds f → IsFromFnResult g f ys n → ys ≡ filled t 0 n (replicate n 0)
  from_fn_filled f ys n h r =
      ext_get_or 0 ys _ (r.long ∙ sym (length-filled t 0 n (replicate n 0) ∙ long)) (λ k l. same k l)
    where
      long : length {A = ℕ} (replicate n 0) ≡ n
      long = length-replicate n 0

      same : (k : ℕ) → k < length ys → get_or ys k 0 ≡ get_or (filled t 0 n (replicate n 0)) k 0
      same k l =
          let below : k < n = omega (arith, r.long) in
          from_fn_each g (λ i y. y ≡ t i) Holds n (λ p q i y b. gives p q i y) f ys 0 h r k below
          ∙ sym (rw (zero-add k) at (filled_at t 0 n (replicate n 0) k below (omega (arith, long))))
