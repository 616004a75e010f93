-- A list whose first entries are those of another, as a loop that copies them in turn leaves it.
-- Assumes nothing.
use Rattle.std.specs.Prelude.{◌≡◌, refl, List, ◌++◌, ℕ, suc, ◌+◌, ◌≤◌, ◌<◌, length, get_or, set, take, drop}
use Rattle.std.proofs.Common.{sym, ◌∙◌, append-nil, le_of_lt, add-one, drop_of_length-le, drop-cons, take-suc, length-take-le}
use Rattle.std.proofs.lemmas.List.{set_at}
use Rattle.std.proofs.Math.Seq.{append_snoc}

module _ {A : Type 0} where
  -- the list d with its first n entries replaced by those of s
  abbrev pub copied : List A → ℕ → List A → List A
  copied s n d = take n s ++ drop n d

  pub copied_none : (s d : List A) → d ≡ copied s 0 d
  copied_none s d = refl

  pub copied_more : (s d : List A) (n : ℕ) (z : A) → n < length s → n < length d → set (copied s n d) n (get_or s n z) ≡ copied s (n + 1) d
  copied_more s d n z p q =
      rw (add-one n, drop-cons d n z q, take-suc s n z p)
      (set_at (take n s) (get_or d n z) (drop (suc n) d) (get_or s n z) n (length-take-le n s (le_of_lt p))
      ∙ sym (append_snoc (take n s) (get_or s n z) (drop (suc n) d)))

  -- all of d replaced
  pub copied_whole : (s d : List A) (n : ℕ) → length d ≤ n → copied s n d ≡ take n s
  copied_whole s d n h = rw (drop_of_length-le d h) (append-nil (take n s))
