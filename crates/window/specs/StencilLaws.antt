-- Laws of stencils: what they leave alone, what they store, and that two which meet nowhere can be exchanged (`applied_exchange`).
-- Assumes nothing.
use Rattle.std.specs.Prelude.{◌≡◌, refl, ◌≢◌, Bool, true, false, List, ◌∷◌, ℕ, zero, suc, ◌+◌, ◌<◌, length, get_or, set}
use Rattle.std.proofs.Common.{sym, ap, ◌∙◌, ⊎_elim, add-zero, add-suc, suc-add, zero-add, eq-or-lt_of_le, le_of_suc-le-suc, add-one, arith, length-set, get_or-set_same, get_or-set_other, ext_get_or}
use Rattle.std.proofs.lemmas.List.{set-get_or, set_comm}
use Rattle.base.specs.First.{found, found-false}
use Rattle.window.specs.Stencil.{Stencil, gather, taps, put, scatter, applied, in_turn}

-- ---- a store, and n of them

put-length : (b : Bool) (i v : ℕ) (w : List ℕ) → length (put b i v w) ≡ length w
put-length true i v w = length-set w i v
put-length false i v w = refl

put_other : (b : Bool) (i v : ℕ) (w : List ℕ) (j d : ℕ) → (b ≡ true → j ≢ i) → get_or (put b i v w) j d ≡ get_or w j d
put_other true i v w j d h = get_or-set_other w i j v d (h refl)
put_other false i v w j d h = refl

put_same : (b : Bool) (i v : ℕ) (w : List ℕ) (d : ℕ) → b ≡ true → i < length w → get_or (put b i v w) i d ≡ v
put_same b i v w d e h = rw e (get_or-set_same w i v d h)

put-put : (b c : Bool) (i j x y : ℕ) (w : List ℕ) → (b ≡ true → c ≡ true → i ≢ j) → put b i x (put c j y w) ≡ put c j y (put b i x w)
put-put true true i j x y w h = set_comm w j i y x (λ e. h refl refl (sym e))
put-put true false i j x y w h = refl
put-put false true i j x y w h = refl
put-put false false i j x y w h = refl

put_kept : (b : Bool) (i v : ℕ) (w : List ℕ) → v ≡ get_or w i 0 → put b i v w ≡ w
put_kept true i v w e = rw e (set-get_or w i 0)
put_kept false i v w e = refl

pub put_on : (b : Bool) (i j v : ℕ) (w : List ℕ) → b ≡ true → i ≡ j → set w i v ≡ put b j v w
put_on b i j v w e h = rw (e, h)

pub put_off : (b : Bool) (j v : ℕ) (w : List ℕ) → b ≡ false → w ≡ put b j v w
put_off b j v w e = rw e

module _ (stored : ℕ → Bool) (writes sample : ℕ → ℕ) where
  pub scatter_none : (w : List ℕ) → w ≡ scatter stored writes sample 0 w
  unfolding scatter
  scatter_none w = refl

  -- one more turn of a loop that stores
  pub scatter_more : (n : ℕ) (w : List ℕ) → put (stored n) (writes n) (sample n) (scatter stored writes sample n w) ≡ scatter stored writes sample (n + 1) w
  unfolding scatter
  scatter_more n w = rw (add-one n)

  pub scatter-length : (n : ℕ) (w : List ℕ) → length (scatter stored writes sample n w) ≡ length w
  unfolding scatter
  scatter-length zero w = refl
  scatter-length (suc n) w = put-length (stored n) (writes n) (sample n) (scatter stored writes sample n w) ∙ scatter-length n w

  pub scatter_other : (n : ℕ) (w : List ℕ) (j d : ℕ) → ((k : ℕ) → k < n → stored k ≡ true → j ≢ writes k) → get_or (scatter stored writes sample n w) j d ≡ get_or w j d
  unfolding scatter
  scatter_other zero w j d h = refl
  scatter_other (suc n) w j d h =
      put_other (stored n) (writes n) (sample n) (scatter stored writes sample n w) j d (h n (omega arith))
      ∙ scatter_other n w j d (λ k l. h k (omega arith))

  -- a place that one tap alone is stored to holds that tap
  pub scatter_at : (n : ℕ) (w : List ℕ) (k d : ℕ) → k < n → stored k ≡ true → writes k < length w → ((j : ℕ) → j < n → stored j ≡ true → writes k ≡ writes j → k ≡ j)
      → get_or (scatter stored writes sample n w) (writes k) d ≡ sample k
  unfolding scatter
  scatter_at zero w k d l t r h = absurd (omega arith)
  scatter_at (suc n) w k d l t r h = ⊎_elim
      (λ (e : k ≡ n). rw e (put_same (stored n) (writes n) (sample n) (scatter stored writes sample n w) d (rw e at t) (rw scatter-length (rw e at r))))
      (λ (q : k < n).
      put_other (stored n) (writes n) (sample n) (scatter stored writes sample n w) (writes k) d (λ u e. let same = h n (omega arith) u e in omega arith)
      ∙ scatter_at n w k d q t r (λ j i. h j (omega arith)))
      (eq-or-lt_of_le (le_of_suc-le-suc l))

  scatter_idle : (n : ℕ) (w : List ℕ) → ((k : ℕ) → k < n → stored k ≡ false) → scatter stored writes sample n w ≡ w
  unfolding scatter
  scatter_idle zero w h = refl
  scatter_idle (suc n) w h = rw (h n (omega arith)) (scatter_idle n w (λ k l. h k (omega arith)))

  -- samples that are there already
  scatter_kept : (n : ℕ) (w : List ℕ) → ((k : ℕ) → k < n → sample k ≡ get_or w (writes k) 0) → scatter stored writes sample n w ≡ w
  unfolding scatter
  scatter_kept zero w h = refl
  scatter_kept (suc n) w h =
      ap (put (stored n) (writes n) (sample n)) (scatter_kept n w (λ k l. h k (omega arith))) ∙ put_kept (stored n) (writes n) (sample n) w (h n (omega arith))

  scatter-put : (n : ℕ) (b : Bool) (j y : ℕ) (w : List ℕ) → ((k : ℕ) → k < n → stored k ≡ true → b ≡ true → writes k ≢ j)
      → scatter stored writes sample n (put b j y w) ≡ put b j y (scatter stored writes sample n w)
  unfolding scatter
  scatter-put zero b j y w h = refl
  scatter-put (suc n) b j y w h =
      ap (λ (r : List ℕ). put (stored n) (writes n) (sample n) r) (scatter-put n b j y w (λ k l. h k (omega arith)))
      ∙ put-put (stored n) b (writes n) j (sample n) y (scatter stored writes sample n w) (h n (omega arith))

scatter-scatter : (s : ℕ → Bool) (i v : ℕ → ℕ) (s' : ℕ → Bool) (i' v' : ℕ → ℕ) (n m : ℕ) (w : List ℕ)
    → ((k j : ℕ) → k < n → j < m → s k ≡ true → s' j ≡ true → i k ≢ i' j)
    → scatter s i v n (scatter s' i' v' m w) ≡ scatter s' i' v' m (scatter s i v n w)
unfolding scatter
scatter-scatter s i v s' i' v' n zero w h = refl
scatter-scatter s i v s' i' v' n (suc m) w h =
    scatter-put s i v n (s' m) (i' m) (v' m) (scatter s' i' v' m w) (λ k l t u. h k m l (omega arith) t u)
    ∙ ap (λ (r : List ℕ). put (s' m) (i' m) (v' m) r) (scatter-scatter s i v s' i' v' n m w (λ k j l l'. h k j l (omega arith)))

-- only what stands at the first n taps counts
scatter_same : (s s' : ℕ → Bool) (i i' v : ℕ → ℕ) (n : ℕ) (w : List ℕ) → ((k : ℕ) → k < n → s k ≡ s' k) → ((k : ℕ) → k < n → i k ≡ i' k)
    → scatter s i v n w ≡ scatter s' i' v n w
unfolding scatter
scatter_same s s' i i' v zero w h e = refl
scatter_same s s' i i' v (suc n) w h e =
    λ x. put (h n (omega arith) x) (e n (omega arith) x) (v n) (scatter_same s s' i i' v n w (λ k l. h k (omega arith)) (λ k l. e k (omega arith)) x)

-- ---- n reads

pub gather_kept : (reads : ℕ → ℕ) (k n : ℕ) (w u : List ℕ) → ((j : ℕ) → j < k + n → get_or w (reads j) 0 ≡ get_or u (reads j) 0) → gather reads k n w ≡ gather reads k n u
unfolding gather
gather_kept reads k zero w u h = refl
gather_kept reads k (suc n) w u h = λ x. h k (omega arith) x ∷ gather_kept reads (suc k) n w u (λ j l. h j (omega arith)) x

gather_same : (r r' : ℕ → ℕ) (k n : ℕ) (w : List ℕ) → ((j : ℕ) → j < k + n → r j ≡ r' j) → gather r k n w ≡ gather r' k n w
unfolding gather
gather_same r r' k zero w h = refl
gather_same r r' k (suc n) w h = λ x. get_or w (h k (omega arith) x) 0 ∷ gather_same r r' (suc k) n w (λ j l. h j (omega arith)) x

pub gather-length : (reads : ℕ → ℕ) (k n : ℕ) (w : List ℕ) → length (gather reads k n w) ≡ n
unfolding gather
gather-length reads k zero w = refl
gather-length reads k (suc n) w = ap suc (gather-length reads (suc k) n w)

pub gather_at : (reads : ℕ → ℕ) (k n : ℕ) (w : List ℕ) (j : ℕ) → j < n → get_or (gather reads k n w) j 0 ≡ get_or w (reads (k + j)) 0
unfolding gather
gather_at reads k zero w j l = absurd (omega arith)
gather_at reads k (suc n) w zero l = rw add-zero
gather_at reads k (suc n) w (suc j) l = gather_at reads (suc k) n w j (omega arith) ∙ rw (add-suc, suc-add)

-- a list that a loop has filled, read by read
pub gather-filled : (reads : ℕ → ℕ) (n : ℕ) (w t : List ℕ) → length t ≡ n → ((j : ℕ) → j < n → get_or t j 0 ≡ get_or w (reads j) 0) → t ≡ gather reads 0 n w
gather-filled reads n w t e h =
    ext_get_or 0 t (gather reads 0 n w) (e ∙ sym (gather-length reads 0 n w))
    (λ j l. h j (omega arith) ∙ sym (gather_at reads 0 n w j (omega arith) ∙ ap (λ (k : ℕ). get_or w (reads k) 0) (zero-add j)))

-- ---- a stencil

-- read, filter, store
pub applied-made : (a : Stencil) (w t o r : List ℕ) → t ≡ taps a w → o ≡ a.line t → r ≡ scatter a.stored a.writes (λ k. get_or o k 0) 16 w → r ≡ applied a w
unfolding applied
applied-made a w t o r e f h = h ∙ ap (λ (l : List ℕ). scatter a.stored a.writes (λ k. get_or l k 0) 16 w) (f ∙ ap a.line e)

pub applied-length : (a : Stencil) (w : List ℕ) → length (applied a w) ≡ length w
unfolding applied
applied-length a w = scatter-length a.stored a.writes (λ k. get_or (a.line (taps a w)) k 0) 16 w

pub applied_other : (a : Stencil) (w : List ℕ) (j d : ℕ) → ((k : ℕ) → k < 16 → a.stored k ≡ true → j ≢ a.writes k) → get_or (applied a w) j d ≡ get_or w j d
unfolding applied
applied_other a w j d h = scatter_other a.stored a.writes (λ k. get_or (a.line (taps a w)) k 0) 16 w j d h

pub applied_at : (a : Stencil) (w : List ℕ) (k d : ℕ) → k < 16 → a.stored k ≡ true → a.writes k < length w → ((j : ℕ) → j < 16 → a.stored j ≡ true → a.writes k ≡ a.writes j → k ≡ j)
    → get_or (applied a w) (a.writes k) d ≡ get_or (a.line (taps a w)) k 0
unfolding applied
applied_at a w k d l t r h = scatter_at a.stored a.writes (λ i. get_or (a.line (taps a w)) i 0) 16 w k d l t r h

-- it stores something
abbrev pub live : Stencil → Bool
live a = found a.stored 16

pub applied_idle : (a : Stencil) (w : List ℕ) → live a ≡ false → applied a w ≡ w
unfolding applied
applied_idle a w e = scatter_idle a.stored a.writes (λ k. get_or (a.line (taps a w)) k 0) 16 w (found-false a.stored 16 e)

-- a line filter that leaves the line, where each tap is stored to the place that it is read from
pub applied_kept : (a : Stencil) (w : List ℕ) → ((k : ℕ) → k < 16 → a.writes k ≡ a.reads k) → ((t : List ℕ) → a.line t ≡ t) → applied a w ≡ w
unfolding applied
applied_kept a w h e =
    scatter_kept a.stored a.writes (λ k. get_or (a.line (taps a w)) k 0) 16 w (λ k l. rw (e (taps a w), gather_at a.reads 0 16 w k l, zero-add k, h k l))

-- stencils that agree at the 16 taps
pub applied_same : (a b : Stencil) (w : List ℕ) → a.line ≡ b.line → ((k : ℕ) → k < 16 → a.reads k ≡ b.reads k) → ((k : ℕ) → k < 16 → a.stored k ≡ b.stored k)
    → ((k : ℕ) → k < 16 → a.writes k ≡ b.writes k) → applied a w ≡ applied b w
unfolding applied
applied_same a b w f r s i =
    (λ x. scatter a.stored a.writes (λ k. get_or (f x (gather_same a.reads b.reads 0 16 w (λ k l. r k (omega arith)) x)) k 0) 16 w)
    ∙ scatter_same a.stored b.stored a.writes b.writes (λ k. get_or (b.line (taps b w)) k 0) 16 w s i

-- ---- two stencils that meet nowhere: what one reads or stores, the other does not store. One that stores nothing may read anything.

pub record Apart (a b : Stencil) : Type 0 where
  pub reads : live a ≡ true → (k j : ℕ) → k < 16 → j < 16 → b.stored j ≡ true → a.reads k ≢ b.writes j
  pub read : live b ≡ true → (k j : ℕ) → k < 16 → j < 16 → a.stored j ≡ true → b.reads k ≢ a.writes j
  pub stores : (k j : ℕ) → k < 16 → j < 16 → a.stored k ≡ true → b.stored j ≡ true → a.writes k ≢ b.writes j

taps_kept : (a b : Stencil) (w : List ℕ) → ((k j : ℕ) → k < 16 → j < 16 → b.stored j ≡ true → a.reads k ≢ b.writes j) → taps a (applied b w) ≡ taps a w
taps_kept a b w h = gather_kept a.reads 0 16 (applied b w) w (λ k l. applied_other b w (a.reads k) 0 (λ j m t. h k j (omega arith) m t))

pub applied_exchange : (a b : Stencil) → Apart a b → (w : List ℕ) → applied a (applied b w) ≡ applied b (applied a w)
unfolding applied
applied_exchange a b p w = go (live a) (live b) refl refl
  where
    go : (x y : Bool) → live a ≡ x → live b ≡ y → applied a (applied b w) ≡ applied b (applied a w)
    go false y e d = applied_idle a (applied b w) e ∙ ap (applied b) (sym (applied_idle a w e))
    go true false e d = ap (applied a) (applied_idle b w d) ∙ sym (applied_idle b (applied a w) d)
    go true true e d =
        ap (λ (r : List ℕ). scatter a.stored a.writes (λ k. get_or (a.line r) k 0) 16 (applied b w)) (taps_kept a b w (p.reads e))
        ∙ scatter-scatter a.stored a.writes (λ k. get_or (a.line (taps a w)) k 0) b.stored b.writes (λ k. get_or (b.line (taps b w)) k 0) 16 16 w p.stores
        ∙ ap (λ (r : List ℕ). scatter b.stored b.writes (λ k. get_or (b.line r) k 0) 16 (applied a w)) (sym (taps_kept b a w (p.read d)))

-- ---- a family of stencils

pub in_turn_none : (family : ℕ → Stencil) (w : List ℕ) → w ≡ in_turn family 0 w
unfolding in_turn
in_turn_none family w = refl

pub in_turn_more : (family : ℕ → Stencil) (n : ℕ) (w : List ℕ) → applied (family n) (in_turn family n w) ≡ in_turn family (n + 1) w
unfolding in_turn
in_turn_more family n w = rw (add-one n)

pub in_turn-length : (family : ℕ → Stencil) (n : ℕ) (w : List ℕ) → length (in_turn family n w) ≡ length w
unfolding in_turn
in_turn-length family zero w = refl
in_turn-length family (suc n) w = applied-length (family n) (in_turn family n w) ∙ in_turn-length family n w

-- n of them after the first m
pub in_turn_split : (family : ℕ → Stencil) (m n : ℕ) (w : List ℕ) → in_turn family (m + n) w ≡ in_turn (λ k. family (m + k)) n (in_turn family m w)
unfolding in_turn
in_turn_split family m zero w = rw add-zero
in_turn_split family m (suc n) w = rw add-suc (ap (applied (family (m + n))) (in_turn_split family m n w))

-- families that do the same
pub in_turn_same : (f f' : ℕ → Stencil) (n : ℕ) (w : List ℕ) → ((k : ℕ) → k < n → (u : List ℕ) → applied (f k) u ≡ applied (f' k) u) → in_turn f n w ≡ in_turn f' n w
unfolding in_turn
in_turn_same f f' zero w h = refl
in_turn_same f f' (suc n) w h = h n (omega arith) (in_turn f n w) ∙ ap (applied (f' n)) (in_turn_same f f' n w (λ k l. h k (omega arith)))

-- or nothing
pub in_turn_idle : (family : ℕ → Stencil) (n : ℕ) (w : List ℕ) → ((k : ℕ) → k < n → (u : List ℕ) → applied (family k) u ≡ u) → in_turn family n w ≡ w
unfolding in_turn
in_turn_idle family zero w h = refl
in_turn_idle family (suc n) w h = h n (omega arith) (in_turn family n w) ∙ in_turn_idle family n w (λ k l. h k (omega arith))
