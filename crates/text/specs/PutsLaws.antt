-- Laws of what a text's functions write.
-- Assumes nothing.
use Rattle.std.specs.Prelude.{◌≡◌, refl, List, [], ◌∷◌, ◌++◌, ℕ, ◌+◌, ◌≤◌, ◌<◌, length, get_or, take, drop}
use Rattle.std.proofs.Common.{◌∙◌, arith, add-one, add-zero, sym, take-suc}
use Rattle.text.specs.Puts.{Puts}
use Rattle.text.specs.TextLaws.{put_then, written_none, written-front}
use Rattle.text.specs.declared.Text.{Text}

pub puts_none : (s : Text) → Puts [] s s
puts_none s = record { same = refl; put = (written_none s.at s.out.now, sym (add-zero s.at)) }

-- bytes, and the next behind them
pub puts_then : (a b : List ℕ) {s t u : Text} → Puts a s t → Puts b t u → Puts (a ++ b) s u
puts_then a b {s} p q = record { same = q.same ∙ p.same; put = put_then s.at a b s.out.now p.put q.put }

-- the first bytes of some, and the next
pub puts_next : (bytes : List ℕ) (k : ℕ) {s t u : Text} → k < length bytes → Puts (take k bytes) s t → Puts (get_or bytes k 0 ∷ []) t u → Puts (take (k + 1) bytes) s u
puts_next bytes k h p q = rw (add-one k, take-suc bytes k 0 h) (puts_then (take k bytes) (get_or bytes k 0 ∷ []) p q)

-- text that fits, from the front on
pub puts_front : (bytes : List ℕ) {s t : Text} → Puts bytes s t → s.at ≡ 0 → length bytes ≤ length s.out.now
    → (t.out.now ≡ bytes ++ drop (length bytes) s.out.now) × (t.at ≡ length bytes)
puts_front bytes {s} p z fits = (p.put.0 ∙ rw z (written-front bytes s.out.now fits), p.put.1 ∙ omega (arith, z))
