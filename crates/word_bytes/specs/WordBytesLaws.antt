-- Laws of words that arrive as bytes: how many there are, and each.
-- Assumes nothing.
use Rattle.std.specs.Prelude.{◌≡◌, List, ℕ, ◌+◌, ◌*◌, ◌/◌, ◌<◌, length, get_or, replicate, refl, zero, suc, ◌≤◌, take, drop}
use Rattle.std.proofs.Math.Path.{sym}
use Rattle.std.proofs.Common.{ap, ◌∙◌, zero-add, arith}
use Rattle.std.proofs.Math.ListN.{length-replicate}
use Rattle.std.proofs.Math.Seq.{take_all}
use Rattle.std.proofs.lemmas.List.{get_or-take, get_or-drop, length-drop}
use Rattle.std.proofs.Common.{length-take-le}
use Rattle.base.specs.Filled.{table, filled, filled_at, length-filled, take-filled}
use Rattle.word_bytes.specs.WordBytes.{bytes_at, words_at, words_of}

module _ (bytes : List ℕ) (at count : ℕ) where
  abbrev word : ℕ → ℕ
  word k = bytes_at bytes (at + 4 * k) 4

  -- the words are those of a list that is filled with them
  abbrev stored : List ℕ
  stored = filled word 0 count (replicate count 0)

  stored-length : length stored ≡ count
  stored-length = length-filled word 0 count (replicate count 0) ∙ length-replicate count 0

  words-stored : words_at bytes at count ≡ stored
  unfolding words_at
  words-stored =
      sym (take-filled word count (replicate count 0) (omega (arith, length-replicate {A = ℕ} count 0))) ∙ take_all count stored (omega (arith, stored-length))

  words-length : length (words_at bytes at count) ≡ count
  words-length = ap length words-stored ∙ stored-length

  words_each : (k : ℕ) → k < count → get_or (words_at bytes at count) k 0 ≡ bytes_at bytes (at + 4 * k) 4
  words_each k h =
      rw words-stored (rw (zero-add k) at (filled_at word 0 count (replicate count 0) k h (omega (arith, length-replicate {A = ℕ} count 0))))

module _ (bytes : List ℕ) where
  pub words_of-length : length (words_of bytes) ≡ length bytes / 4
  unfolding words_of
  words_of-length = words-length bytes 0 (length bytes / 4)

  pub words_of_each : (k : ℕ) → k < length bytes / 4 → get_or (words_of bytes) k 0 ≡ bytes_at bytes (4 * k) 4
  unfolding words_of
  words_of_each k h = rw (zero-add (4 * k)) at (words_each bytes 0 (length bytes / 4) k h)

-- the words of a stretch of bytes
module _ (bytes : List ℕ) (at count : ℕ) (lent : at + 4 * count ≤ length bytes) where
  abbrev stretch : List ℕ
  stretch = take (4 * count) (drop at bytes)

  pub stretch-length : length stretch ≡ 4 * count
  stretch-length = length-take-le (4 * count) (drop at bytes) (omega (arith, length-drop at bytes))

  stretch_at : (i : ℕ) → i < 4 * count → get_or stretch i 0 ≡ get_or bytes (at + i) 0
  stretch_at i h = get_or-take (4 * count) (drop at bytes) i 0 h ∙ get_or-drop at bytes i 0

  stretch_word : (k : ℕ) → k < count → bytes_at stretch (0 + 4 * k) 4 ≡ bytes_at bytes (at + 4 * k) 4
  stretch_word k h = rw (byte 0 (omega arith), byte 1 (omega arith), byte 2 (omega arith), byte 3 (omega arith))
    where
      byte : (j : ℕ) → j < 4 → get_or stretch (0 + 4 * k + j) 0 ≡ get_or bytes (at + 4 * k + j) 0
      byte j l = let place : at + (0 + 4 * k + j) ≡ at + 4 * k + j = omega arith in rw place at (stretch_at (0 + 4 * k + j) (omega arith))

  table_same : (f g : ℕ → ℕ) (n : ℕ) → ((k : ℕ) → k < n → f k ≡ g k) → table f n ≡ table g n
  unfolding table
  table_same f g zero e = refl
  table_same f g (suc n) e = rw (table_same f g n (λ k h. e k (omega arith)), e n (omega arith))

  pub words_of_stretch : words_of stretch ≡ words_at bytes at count
  unfolding words_of words_at
  words_of_stretch =
      let whole : length stretch / 4 ≡ count = omega (arith, stretch-length) in
      rw whole (table_same (λ k. bytes_at stretch (0 + 4 * k) 4) (λ k. bytes_at bytes (at + 4 * k) 4) count stretch_word)

-- both, for tactics
pub ruleset each_word = (words_of-length, words_of_each)
