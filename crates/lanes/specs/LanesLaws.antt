-- Laws of lanes: what a store to one lane does to it and to the others.
-- Assumes nothing.
use Rattle.std.specs.Prelude.{◌≡◌, refl, ◌≢◌, Bool, true, false, ◌&&◌, List, [], ◌∷◌, ℕ, zero, suc, ◌+◌, ◌*◌, ◌<◌, ◌≤◌, ltb, length, get_or, map, set}
use Rattle.std.proofs.Common.{sym, ap, ◌∙◌, ⊎_elim, arith, length-set, get_or-set_same, get_or-set_other, ext_get_or, lt-ltb}
use Rattle.std.proofs.lemmas.List.{get_or-map, map-id, map-set, length-map}
use Rattle.base.specs.Depth.{scaled}
use Rattle.base.specs.NotationLaws.{split}
use Rattle.lane.specs.LaneSamples.{samples_of, values_of, put_taps}
use Rattle.lane_filters.specs.Small.{Small}
use Rattle.lane.specs.declared.Lane.{Lane}
use Rattle.line.specs.Masks.{filter_mask}
use Rattle.line.specs.SampleFiltering.{sample_filtering}
use Rattle.line.specs.SampleFilteringLaws.{filters_none}
use Rattle.wide_filter.specs.Taps.{tap}
use Rattle.lanes.specs.Lanes.{lane_in, lane_of, put_lane, Table, EachLane, EachLaneTo, Lanes, NoneTo}

pub lane_length : (t : List ℕ) (l : ℕ) → length (lane_of t l) ≡ 16
unfolding lane_of
lane_length t l = refl

-- tap k of lane l stands at 16 k + l
pub lane_tap : (t : List ℕ) (l k : ℕ) → k < 16 → tap (lane_of t l) k ≡ tap t (16 * k + l)
unfolding lane_of
lane_tap t l zero h = ap (tap t) (omega arith)
lane_tap t l (suc zero) h = refl
lane_tap t l (suc (suc zero)) h = refl
lane_tap t l (suc (suc (suc zero))) h = refl
lane_tap t l (suc (suc (suc (suc zero)))) h = refl
lane_tap t l (suc (suc (suc (suc (suc zero))))) h = refl
lane_tap t l (suc (suc (suc (suc (suc (suc zero)))))) h = refl
lane_tap t l (suc (suc (suc (suc (suc (suc (suc zero))))))) h = refl
lane_tap t l (suc (suc (suc (suc (suc (suc (suc (suc zero)))))))) h = refl
lane_tap t l (suc (suc (suc (suc (suc (suc (suc (suc (suc zero))))))))) h = refl
lane_tap t l (suc (suc (suc (suc (suc (suc (suc (suc (suc (suc zero)))))))))) h = refl
lane_tap t l (suc (suc (suc (suc (suc (suc (suc (suc (suc (suc (suc zero))))))))))) h = refl
lane_tap t l (suc (suc (suc (suc (suc (suc (suc (suc (suc (suc (suc (suc zero)))))))))))) h = refl
lane_tap t l (suc (suc (suc (suc (suc (suc (suc (suc (suc (suc (suc (suc (suc zero))))))))))))) h = refl
lane_tap t l (suc (suc (suc (suc (suc (suc (suc (suc (suc (suc (suc (suc (suc (suc zero)))))))))))))) h = refl
lane_tap t l (suc (suc (suc (suc (suc (suc (suc (suc (suc (suc (suc (suc (suc (suc (suc zero))))))))))))))) h = refl
lane_tap t l (suc (suc (suc (suc (suc (suc (suc (suc (suc (suc (suc (suc (suc (suc (suc (suc k)))))))))))))))) h = absurd (omega arith)

own : (t : List ℕ) (l k v : ℕ) → length t ≡ 256 → l < 16 → k < 16 → lane_of (set t (16 * k + l) v) l ≡ set (lane_of t l) k v
own t l k v n h g =
    ext_get_or 0 (lane_of (set t (16 * k + l) v) l) (set (lane_of t l) k v)
    (lane_length (set t (16 * k + l) v) l ∙ sym (length-set (lane_of t l) k v ∙ lane_length t l))
    (λ i b. at i (omega (arith, lane_length (set t (16 * k + l) v) l)))
  where
    differ : (i : ℕ) → i < 16 → i ≢ k → tap (lane_of (set t (16 * k + l) v) l) i ≡ tap (set (lane_of t l) k v) i
    differ i b d =
        lane_tap (set t (16 * k + l) v) l i b
        ∙ get_or-set_other t (16 * k + l) (16 * i + l) v 0 (λ e. d (omega arith))
        ∙ sym (lane_tap t l i b)
        ∙ sym (get_or-set_other (lane_of t l) k i v 0 d)

    same : tap (lane_of (set t (16 * k + l) v) l) k ≡ tap (set (lane_of t l) k v) k
    same =
        lane_tap (set t (16 * k + l) v) l k g
        ∙ get_or-set_same t (16 * k + l) v 0 (omega arith)
        ∙ sym (get_or-set_same (lane_of t l) k v 0 (omega (arith, lane_length t l)))

    at : (i : ℕ) → i < 16 → tap (lane_of (set t (16 * k + l) v) l) i ≡ tap (set (lane_of t l) k v) i
    at i b =
        ⊎_elim (λ (x : i < k). differ i b (λ e. omega arith))
        (λ (x : k ≤ i).
        ⊎_elim (λ (y : k < i). differ i b (λ e. omega arith))
        (λ (y : i ≤ k). let e : i ≡ k = omega arith in rw e same)
        (split k i))
        (split i k)

other : (t : List ℕ) (l k v m : ℕ) → l < 16 → m < 16 → m ≢ l → lane_of (set t (16 * k + l) v) m ≡ lane_of t m
other t l k v m h g d =
    ext_get_or 0 (lane_of (set t (16 * k + l) v) m) (lane_of t m)
    (lane_length (set t (16 * k + l) v) m ∙ sym (lane_length t m))
    (λ i b. at i (omega (arith, lane_length (set t (16 * k + l) v) m)))
  where
    at : (i : ℕ) → i < 16 → tap (lane_of (set t (16 * k + l) v) m) i ≡ tap (lane_of t m) i
    at i b =
        lane_tap (set t (16 * k + l) v) m i b
        ∙ get_or-set_other t (16 * k + l) (16 * i + m) v 0 (λ e. d (omega arith))
        ∙ sym (lane_tap t m i b)

pub put-length : {T : Type 0} (t : List T) (l k : ℕ) (vs : List T) → length (put_lane t l k vs) ≡ length t
put-length t l k [] = refl
put-length t l k (v ∷ vs) = put-length (set t (16 * k + l) v) l (k + 1) vs ∙ length-set t (16 * k + l) v

pub put-own : (t : List ℕ) (l k : ℕ) (vs : List ℕ) → length t ≡ 256 → l < 16 → k + length vs ≤ 16 → lane_of (put_lane t l k vs) l ≡ put_taps (lane_of t l) k vs
put-own t l k [] n h g = refl
put-own t l k (v ∷ vs) n h g =
    put-own (set t (16 * k + l) v) l (k + 1) vs (length-set t (16 * k + l) v ∙ n) h (omega arith)
    ∙ ap (λ (x : List ℕ). put_taps x (k + 1) vs) (own t l k v n h (omega arith))

pub put_other : (t : List ℕ) (l k : ℕ) (vs : List ℕ) (m : ℕ) → l < 16 → m < 16 → m ≢ l → lane_of (put_lane t l k vs) m ≡ lane_of t m
put_other t l k [] m h g d = refl
put_other t l k (v ∷ vs) m h g d = put_other (set t (16 * k + l) v) l (k + 1) vs m h g d ∙ other t l k v m h g d

-- ---- a loop over lanes

pub lanes_none : {f : ℕ → List ℕ → List ℕ} (t : List ℕ) → EachLaneTo 0 f t t
lanes_none t = record { done = λ l b. absurd (omega arith); rest = λ l b c. refl }

-- a lane more is done
lane_step : (f : ℕ → List ℕ → List ℕ) (t u : List ℕ) (m k : ℕ) (vs : List ℕ) → length u ≡ 256 → m < 16 → k + length vs ≤ 16 → put_taps (lane_of u m) k vs ≡ f m (lane_of u m) → EachLaneTo m f t u → EachLaneTo (m + 1) f t (put_lane u m k vs)
lane_step f t u m k vs n h g e inv =
    record { done = done; rest = λ l b c. put_other u m k vs l h c (λ x. omega arith) ∙ inv.rest l (omega arith) c }
  where
    last : lane_of (put_lane u m k vs) m ≡ f m (lane_of t m)
    last = put-own u m k vs n h g ∙ e ∙ ap (f m) (inv.rest m (omega arith) h)

    done : (l : ℕ) → l < m + 1 → lane_of (put_lane u m k vs) l ≡ f l (lane_of t l)
    done l b =
        ⊎_elim (λ (x : l < m). put_other u m k vs l h (omega arith) (λ y. omega arith) ∙ inv.done l x)
        (λ (x : m ≤ l). let y : l ≡ m = omega arith in rw y last)
        (split l m)

pub lane_more : {f : ℕ → List ℕ → List ℕ} {m : ℕ} {t u v line : List ℕ} (k : ℕ) (vs : List ℕ) → m < 16 → k + length vs ≤ 16 → length u ≡ 256 → EachLaneTo m f t u → line ≡ lane_of u m → put_taps line k vs ≡ f m line → v ≡ put_lane u m k vs → (length v ≡ 256) × EachLaneTo (m + 1) f t v
lane_more {f} {m} {t} {u} {v} k vs h g n inv is e d =
    (ap length d ∙ put-length u m k vs ∙ n, rw d (lane_step f t u m k vs n h g (ap (λ (x : List ℕ). put_taps x k vs) (sym is) ∙ e ∙ ap (f m) is) inv))

pub lanes_fewer : {n m : ℕ} {f : ℕ → List ℕ → List ℕ} {t u : List ℕ} → n ≤ m → EachLane m f t u → EachLane n f t u
lanes_fewer h all = record { each = λ l b. all.each l (omega arith) }

-- ---- lanes whose mask is off

module _ (n depth limit blimit : ℕ) where
  pub none_more : {a : Lane ℕ} (m : ℕ) (t : List ℕ) → samples_of a ≡ lane_of t m → filter_mask (scaled depth limit) (scaled depth blimit) (samples_of a) && ltb m n ≡ false → NoneTo m n depth limit blimit t → NoneTo (m + 1) n depth limit blimit t
  none_more {a} m t is e g = record {
    none = λ l b d. ⊎_elim (λ (x : l < m). g.none l x d) (λ (x : m ≤ l). let y : l ≡ m = omega arith in rw y (last (omega arith))) (split l m);
  }
    where
      off : (b : Bool) → b && true ≡ false → b ≡ false
      off true e = e
      off false e = refl

      last : m < n → filter_mask (scaled depth limit) (scaled depth blimit) (lane_of t m) ≡ false
      last h =
          ap (filter_mask (scaled depth limit) (scaled depth blimit)) (sym is)
          ∙ off (filter_mask (scaled depth limit) (scaled depth blimit) (samples_of a)) (rw (lt-ltb m n h) at e)

  -- where the mask is off every lane is kept
  pub none_kept : (m size thresh : ℕ) (t : List ℕ) → n ≤ m → NoneTo m n depth limit blimit t → Lanes n (sample_filtering depth size limit blimit thresh) t t
  none_kept m size thresh t h g =
      record { each = λ l b. filters_none depth size limit blimit thresh (lane_of t l) (g.none l (omega arith) b) }

-- ---- lanes of any samples, by the value of each

module _ {T : Type 0} (value : T → ℕ) where
  -- what is read of a whole table is the lane
  pub lane_values : {a : Lane T} (t : List T) (l : ℕ) → length t ≡ 256 → l < 16 → a ≡ lane_in t l a → values_of value a ≡ lane_of (map value t) l
  unfolding lane_of
  lane_values {a} t l n h is =
      ap (values_of value) is
      ∙ λ i. at l a.p7 (omega arith) i ∷ at (16 + l) a.p6 (omega arith) i ∷ at (32 + l) a.p5 (omega arith) i ∷ at (48 + l) a.p4 (omega arith) i ∷ at (64 + l) a.p3 (omega arith) i ∷ at (80 + l) a.p2 (omega arith) i ∷ at (96 + l) a.p1 (omega arith) i ∷ at (112 + l) a.p0 (omega arith) i ∷ at (128 + l) a.q0 (omega arith) i ∷ at (144 + l) a.q1 (omega arith) i ∷ at (160 + l) a.q2 (omega arith) i ∷ at (176 + l) a.q3 (omega arith) i ∷ at (192 + l) a.q4 (omega arith) i ∷ at (208 + l) a.q5 (omega arith) i ∷ at (224 + l) a.q6 (omega arith) i ∷ at (240 + l) a.q7 (omega arith) i ∷ []
    where
      at : (i : ℕ) (d : T) → i < 256 → value (get_or t i d) ≡ tap (map value t) i
      at i d b = sym (get_or-map value t i d 0 (omega arith))

  pub put_values : (t : List T) (l k : ℕ) (vs : List T) → map value (put_lane t l k vs) ≡ put_lane (map value t) l k (map value vs)
  put_values t l k [] = refl
  put_values t l k (v ∷ vs) = put_values (set t (16 * k + l) v) l (k + 1) vs ∙ ap (λ (u : List ℕ). put_lane u l (k + 1) (map value vs)) (map-set value t (16 * k + l) v)

  -- a lane more is done
  pub lane_put : (f : ℕ → List ℕ → List ℕ) (m k : ℕ) (a : Lane T) (vs u v : List T) (t : List ℕ) → m < 16 → k + length vs ≤ 16 → length u ≡ 256 → EachLaneTo m f t (map value u) → values_of value a ≡ lane_of (map value u) m → put_taps (values_of value a) k (map value vs) ≡ f m (values_of value a) → v ≡ put_lane u m k vs → EachLaneTo (m + 1) f t (map value v)
  lane_put f m k a vs u v t h g n inv is e d =
      (lane_more k (map value vs) h (rw length-map g) (rw length-map n) inv is e (ap (map value) d ∙ put_values u m k vs)).1

  -- and the others are as they were
  pub lane_rest : (m k l : ℕ) (vs u v : List T) → m < 16 → l < 16 → l ≢ m → v ≡ put_lane u m k vs → lane_of (map value v) l ≡ lane_of (map value u) l
  lane_rest m k l vs u v h g n d =
      ap (λ (w : List ℕ). lane_of w l) (ap (map value) d ∙ put_values u m k vs) ∙ put_other (map value u) m k (map value vs) l h g n

-- what is read of a list of numbers
pub lane_read : {a : Lane ℕ} (t : List ℕ) (l : ℕ) → length t ≡ 256 → l < 16 → a ≡ lane_in t l a → samples_of a ≡ lane_of t l
lane_read t l n h is = lane_values (λ n. n) t l n h is ∙ ap (λ (u : List ℕ). lane_of u l) (map-id t)

-- a lane of a table of 12 bits is small
pub small_lane : (t : List ℕ) (l : ℕ) (a : Lane ℕ) → l < 16 → Table t → samples_of a ≡ lane_of (map (λ n. n) t) l → Small a
small_lane t l a h s is = record { below = at }
  where
    at : (k : ℕ) → k < 16 → tap (samples_of a) k < 4096
    at k b =
        let same : tap (samples_of a) k ≡ tap t (16 * k + l) = ap (λ (u : List ℕ). tap u k) (is ∙ ap (λ (u : List ℕ). lane_of u l) (map-id t)) ∙ lane_tap t l k b in
        omega (arith, same, s.small (16 * k + l) (omega arith))
