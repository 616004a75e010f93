-- Laws of joining, for any list of runs: what a list of joined runs has in common with the list that it comes from.
-- Assumes nothing.
use Rattle.std.specs.Prelude.{◌≡◌, refl, ◌⊎◌, Bool, true, false, cond, ℕ, suc, ◌+◌, ◌≤◌, length}
use Rattle.std.proofs.Common.{sym, ap, ◌∙◌, inl, inr, true≢false, arith, List, [], ◌∷◌, ◌++◌, append_assoc}
use Rattle.std.proofs.lemmas.Grind.{common_steps}
use mathlib.Core.List.{Memᴰ}
use Rattle.order.specs.Grid.{strip, strip_split}
use Rattle.decided.specs.Decided.{Position, position}
use Rattle.decided.specs.Runs.{joins, longer, joined_from, joined, positions_of, all_positions}
use Rattle.decided.specs.declared.EdgeRun.{EdgeRun}

-- ---- when two runs are joined

pub record Joins (a b : EdgeRun) : Type 0 where
  pub edge : a.edge ≡ b.edge
  pub first : a.first + a.count ≡ b.first
  pub size : a.size ≡ b.size
  pub level : a.level ≡ b.level
  pub count : a.count + b.count ≤ 16

pub joins_true : (a b : EdgeRun) → joins a b ≡ true → Joins a b
unfolding joins
joins_true a b h = record {
  edge = grind (arith, common_steps);
  first = grind (arith, common_steps);
  size = grind (arith, common_steps);
  level = grind (arith, common_steps);
  count = grind (arith, common_steps);
}

pub joins_holds : (a b : EdgeRun) → Joins a b → joins a b ≡ true
unfolding joins
joins_holds a b j = grind (arith, common_steps)

pub joins_false : (a b : EdgeRun) → joins a b ≡ false → Joins a b → ⊥
joins_false a b h j = true≢false (sym (joins_holds a b j) ∙ h)

-- ---- the steps of joining: r is a, and the runs of l behind it, joined from the front

pub data Joining : EdgeRun → List EdgeRun → List EdgeRun → Type 0 where
  Joining-end : {a : EdgeRun} → Joining a [] (a ∷ [])
  Joining-join : {a b : EdgeRun} {l r : List EdgeRun} → Joins a b → Joining (longer a b.count) l r → Joining a (b ∷ l) r
  Joining-part : {a b : EdgeRun} {l r : List EdgeRun} → (Joins a b → ⊥) → Joining b l r → Joining a (b ∷ l) (a ∷ r)

pub joining : (a : EdgeRun) (l : List EdgeRun) → Joining a l (joined_from a l)
unfolding joined_from
joining a [] = Joining-end
joining a (b ∷ l) = by (joins a b) refl (joining (longer a b.count) l) (joining b l)
  where
    by : (t : Bool) → joins a b ≡ t → Joining (longer a b.count) l (joined_from (longer a b.count) l) → Joining b l (joined_from b l)
        → Joining a (b ∷ l) (cond t (joined_from (longer a b.count) l) (a ∷ joined_from b l))
    by true e together apart = Joining-join (joins_true a b e) together
    by false e together apart = Joining-part (joins_false a b e) apart

-- ---- it makes no more runs

joining_length : {a : EdgeRun} {l r : List EdgeRun} → Joining a l r → length r ≤ suc (length l)
joining_length Joining-end = omega arith
joining_length (Joining-join j k) = omega (arith, joining_length k)
joining_length (Joining-part n k) = omega (arith, joining_length k)

pub joined_length : (l : List EdgeRun) → length (joined l) ≤ length l
joined_length [] = omega arith
joined_length (a ∷ l) = joining_length (joining a l)

-- ---- what two joined runs hand on to the one that they make holds of all

module _ (P : EdgeRun → Type 0) (more : (a b : EdgeRun) → Joins a b → P a → P b → P (longer a b.count)) where
  joining_all : {a : EdgeRun} {l r : List EdgeRun} → Joining a l r → P a → ((b : EdgeRun) → Memᴰ b l → P b)
      → (x : EdgeRun) → Memᴰ x r → P x
  joining_all (Joining-end {a = a}) p h x (Memᴰ.tail m) = elim m [ ]
  joining_all Joining-end p h x (Memᴰ.head e) = rw e p
  joining_all (Joining-join {a} {b} j k) p h x m = joining_all k (more a b j p (h b (Memᴰ.head refl))) (λ y i. h y (Memᴰ.tail i)) x m
  joining_all (Joining-part n k) p h x (Memᴰ.head e) = rw e p
  joining_all (Joining-part {b = b} n k) p h x (Memᴰ.tail m) = joining_all k (h b (Memᴰ.head refl)) (λ y i. h y (Memᴰ.tail i)) x m

  pub joined_all : (l : List EdgeRun) → ((a : EdgeRun) → Memᴰ a l → P a) → (x : EdgeRun) → Memᴰ x (joined l) → P x
  joined_all [] h x m = elim m [ ]
  joined_all (a ∷ l) h x m = joining_all (joining a l) (h a (Memᴰ.head refl)) (λ b i. h b (Memᴰ.tail i)) x m

-- ---- the positions stay as they are, in their order

pub positions_append : (l m : List EdgeRun) → all_positions (l ++ m) ≡ all_positions l ++ all_positions m
positions_append [] m = refl
positions_append (a ∷ l) m =
    ap (λ (k : List Position). positions_of a ++ k) (positions_append l m) ∙ sym (append_assoc (positions_of a) (all_positions l) (all_positions m))

pub longer-positions : (a b : EdgeRun) → Joins a b → positions_of (longer a b.count) ≡ positions_of a ++ positions_of b
longer-positions a b j =
    strip_split position a.edge a.first a.count b.count b.first (sym j.first)
    ∙ ap (λ (e : ℕ). positions_of a ++ strip position e b.first b.count) j.edge

joining_positions : {a : EdgeRun} {l r : List EdgeRun} → Joining a l r → all_positions r ≡ positions_of a ++ all_positions l
joining_positions Joining-end = refl
joining_positions (Joining-join {a} {b} {l} j k) =
    joining_positions k
    ∙ ap (λ (h : List Position). h ++ all_positions l) (longer-positions a b j)
    ∙ append_assoc (positions_of a) (positions_of b) (all_positions l)
joining_positions (Joining-part {a} n k) = ap (λ (h : List Position). positions_of a ++ h) (joining_positions k)

pub joined-positions : (l : List EdgeRun) → all_positions (joined l) ≡ all_positions l
joined-positions [] = refl
joined-positions (a ∷ l) = joining_positions (joining a l)

-- ---- runs one behind the other: each ends its edge, which has len positions, or the next goes on where it ends

pub data Chain (len : ℕ) : List EdgeRun → Type 0 where
  Chain-none : Chain len []
  Chain-ends : {a : EdgeRun} {l : List EdgeRun} → len ≤ a.first + a.count → Chain len l → Chain len (a ∷ l)
  Chain-goes : {a b : EdgeRun} {l : List EdgeRun} → a.edge ≡ b.edge → a.first + a.count ≡ b.first → Chain len (b ∷ l) → Chain len (a ∷ b ∷ l)

-- a run of l goes on where a ends, and cannot be joined to it
pub record Behind (l : List EdgeRun) (a : EdgeRun) : Type 0 where
  pub next : EdgeRun
  pub among : Memᴰ next l
  pub edge : a.edge ≡ next.edge
  pub first : a.first + a.count ≡ next.first
  pub apart : Joins a next → ⊥

-- why a ends where it does: its edge ends, or what is behind it
abbrev pub Stopped : (len : ℕ) → List EdgeRun → EdgeRun → Type 0
Stopped len l a = (len ≤ a.first + a.count) ⊎ Behind l a

module _ {len : ℕ} where
  chain_tail : {a : EdgeRun} {l : List EdgeRun} → Chain len (a ∷ l) → Chain len l
  chain_tail (Chain-ends h c) = c
  chain_tail (Chain-goes e f c) = c

  chain_longer : {a b : EdgeRun} {l : List EdgeRun} → Joins a b → Chain len (b ∷ l) → Chain len (longer a b.count ∷ l)
  chain_longer {a} {b} j (Chain-ends h c) = Chain-ends {a = longer a b.count} (omega arith) c
  chain_longer {a} {b} j (Chain-goes {b = x} e f c) = Chain-goes {a = longer a b.count} {b = x} (j.edge ∙ e) (omega arith) c

  later : {b x : EdgeRun} {l : List EdgeRun} → Stopped len l x → Stopped len (b ∷ l) x
  later (inl h) = inl h
  later (inr s) = inr (record { next = s.next; among = Memᴰ.tail s.among; edge = s.edge; first = s.first; apart = s.apart })

  parted : {a b : EdgeRun} {l : List EdgeRun} → (Joins a b → ⊥) → Chain len (a ∷ b ∷ l) → Stopped len (b ∷ l) a
  parted n (Chain-ends h c) = inl h
  parted {b = b} n (Chain-goes e f c) = inr (record { next = b; among = Memᴰ.head refl; edge = e; first = f; apart = n })

  joining_stops : {a : EdgeRun} {l r : List EdgeRun} → Joining a l r → Chain len (a ∷ l) → (x : EdgeRun) → Memᴰ x r → Stopped len l x
  joining_stops (Joining-end {a = a}) (Chain-ends h c) x (Memᴰ.tail m) = elim m [ ]
  joining_stops Joining-end (Chain-ends h c) x (Memᴰ.head e) = rw e (inl h)
  joining_stops (Joining-join j k) c x m = later (joining_stops k (chain_longer j (chain_tail c)) x m)
  joining_stops (Joining-part n k) c x (Memᴰ.head e) = rw e (parted n c)
  joining_stops (Joining-part n k) c x (Memᴰ.tail m) = later (joining_stops k (chain_tail c) x m)

  pub joined_stops : (l : List EdgeRun) → Chain len l → (x : EdgeRun) → Memᴰ x (joined l) → Stopped len l x
  joined_stops [] c x m = elim m [ ]
  joined_stops (a ∷ l) c x m = later (joining_stops (joining a l) c x m)
