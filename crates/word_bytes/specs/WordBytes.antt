-- Words that arrive as bytes, the most significant first.
-- Assumes nothing.
use Rattle.std.specs.Prelude.{List, ℕ, zero, suc, ◌+◌, ◌*◌, ◌/◌, length, get_or}
use Rattle.base.specs.Filled.{table}

-- the number that n bytes from a place on give, the most significant first
abbrev pub bytes_at : (bytes : List ℕ) (at n : ℕ) → ℕ
bytes_at bytes at zero = 0
bytes_at bytes at (suc n) = bytes_at bytes at n * 256 + get_or bytes (at + n) 0

-- the words that bytes from a place on give, four bytes each
unfoldable pub words_at : (bytes : List ℕ) (at count : ℕ) → List ℕ
words_at bytes at count = table (λ k. bytes_at bytes (at + 4 * k) 4) count

-- the words that bytes give from the front on; bytes behind the last whole word are left out
unfoldable pub words_of : (bytes : List ℕ) → List ℕ
words_of bytes = words_at bytes 0 (length bytes / 4)
