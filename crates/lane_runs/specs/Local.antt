-- What a line filter reads and what it changes.
-- Assumes nothing.
use Rattle.std.specs.Prelude.{◌≡◌, refl, ◌⊎◌, Bool, true, false, cond, List, ℕ, zero, suc, ◌+◌, ◌/◌, ◌%◌, ◌≤◌, ◌<◌, ltb, length}
use Rattle.std.proofs.Common.{sym, ◌∙◌, inl, inr, ⊎_elim, arith, ext_get_or}
use Rattle.std.proofs.Math.Decide.{dec_lt}
use Rattle.lanes.specs.KeyLine.{key_line}
use Rattle.line.specs.SampleFiltering.{sample_filtering}
use Rattle.line.specs.SampleFilteringLaws.{changes, reads, changes-read, reads_few, filters_kept, filters_agree}
use Rattle.strength.specs.Strength.{strength_of}
use Rattle.wide_filter.specs.Taps.{tap, Agree, agree_less}

-- a line filter that reads the r taps on each side of the edge, and changes c of them
pub record Local (r c : ℕ) (f : List ℕ → List ℕ) : Type 0 where
  pub agree : (t u : List ℕ) → length t ≡ 16 → length u ≡ 16 → Agree r t u → Agree r (f t) (f u)
  pub kept : (t : List ℕ) (k : ℕ) → k < 16 → (k + c < 8) ⊎ (8 + c ≤ k) → tap (f t) k ≡ tap t k

-- every line filter reads and changes all taps at most
pub local_all : (f : List ℕ → List ℕ) → Local 8 8 f
local_all f = record {
  agree = λ t u a b same. rw (ext_get_or 0 t u (a ∙ sym b) (λ k h. same.same k (omega arith) (omega arith))) (record { same = λ k p q. refl });
  kept = λ t k h o. absurd (⊎_elim (λ p. omega arith) (λ p. omega arith) o);
}

-- one that changes nothing
pub local_none : (r c : ℕ) → Local r c (λ t. t)
local_none r c = record { agree = λ t u a b same. same; kept = λ t k h o. refl }

-- more taps on each side
pub local_wider : {r c r' c' : ℕ} {f : List ℕ → List ℕ} → c ≤ r → r ≤ r' → c ≤ c' → r' ≤ 8 → Local r c f → Local r' c' f
local_wider {r} {c} {r'} {f = f} within more most all local = record {
  agree = λ t u a b same. record { same = λ k p q. by t u a b same k p q (dec_lt (k + r) 8) (dec_lt k (8 + r)) };
  kept = λ t k h o. local.kept t k h (⊎_elim (λ p. inl (omega arith)) (λ p. inr (omega arith)) o);
}
  where
    same_kept : (t u : List ℕ) (k : ℕ) → k < 16 → tap t k ≡ tap u k → (k + c < 8) ⊎ (8 + c ≤ k) → tap (f t) k ≡ tap (f u) k
    same_kept t u k h e o = local.kept t k h o ∙ e ∙ sym (local.kept u k h o)

    by : (t u : List ℕ) → length t ≡ 16 → length u ≡ 16 → Agree r' t u → (k : ℕ) → 8 ≤ k + r' → k < 8 + r' → Dec (k + r < 8) → Dec (k < 8 + r) → tap (f t) k ≡ tap (f u) k
    by t u a b same k p q (yes l) m = same_kept t u k (omega arith) (same.same k p q) (inl (omega arith))
    by t u a b same k p q (no l) (no m) = same_kept t u k (omega arith) (same.same k p q) (inr (omega arith))
    by t u a b same k p q (no l) (yes m) = (local.agree t u a b (agree_less r' r t u more same)).same k (omega arith) m

-- the sample filtering process
pub sample_local : (B size limit blimit thresh : ℕ) → Local (reads size) (changes size) (sample_filtering B size limit blimit thresh)
sample_local B size limit blimit thresh = record {
  agree = λ t u a b same. filters_agree B size limit blimit thresh t u (a ∙ sym b) same;
  kept = λ t k h o. filters_kept B size limit blimit thresh t k o;
}

-- a larger size reads and changes no fewer
reads_more : (m n : ℕ) → m ≤ n → reads m ≤ reads n
reads_more m (suc (suc n)) h = reads_few m
reads_more zero zero h = omega arith
reads_more zero (suc zero) h = omega arith
reads_more (suc m) zero h = absurd (omega arith)
reads_more (suc zero) (suc zero) h = omega arith
reads_more (suc (suc m)) (suc zero) h = absurd (omega arith)

changes_more : (m n : ℕ) → m ≤ n → changes m ≤ changes n
changes_more zero zero h = omega arith
changes_more zero (suc zero) h = omega arith
changes_more zero (suc (suc n)) h = omega arith
changes_more (suc m) zero h = absurd (omega arith)
changes_more (suc zero) (suc zero) h = omega arith
changes_more (suc zero) (suc (suc n)) h = omega arith
changes_more (suc (suc m)) (suc zero) h = absurd (omega arith)
changes_more (suc (suc m)) (suc (suc n)) h = omega arith

-- a key whose size is at most this
pub key_local : (sharpness depth key size : ℕ) → key / 64 ≤ size → Local (reads size) (changes size) (key_line sharpness depth key)
unfolding key_line
key_local sharpness depth key size h = by (ltb 0 (key % 64))
  where
    by : (b : Bool) → let st = strength_of (key % 64) sharpness in Local (reads size) (changes size) (cond b (sample_filtering depth (key / 64) st.limit st.blimit st.thresh) (λ line. line))
    by true = local_wider (changes-read (key / 64)) (reads_more (key / 64) size h) (changes_more (key / 64) size h) (reads_few size) (sample_local depth (key / 64) _ _ _)
    by false = local_none (reads size) (changes size)
