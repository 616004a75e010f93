-- Keys: what the positions of a cell along an edge filter with, as one number each.
-- Assumes nothing.
use Rattle.std.specs.Prelude.{◌≡◌, Bool, cond, ◌&&◌, List, ℕ, ◌+◌, ◌*◌, ◌/◌, ◌%◌, ltb}
use Rattle.base.specs.Filled.{table}
use Rattle.base.specs.First.{first_found}
use Rattle.decisions.specs.Decision.{Decision, decision, levelless}
use Rattle.geometry.specs.declared.Pass.{Pass}
use Rattle.geometry.specs.declared.Superblock.{Superblock}
use Rattle.pass_edges.specs.PassEdges.{cell_start, edge_count}
use Rattle.keys.specs.declared.edge_keys.Keys.{Keys}

-- 0 where nothing is filtered, else 64 times the size plus the level
unfoldable pub key_of : Decision → ℕ
key_of d = cond (d.decided && ltb 0 d.level) (64 * d.size + d.level) 0

-- the key of the positions of cell c along an edge: they have one decision, that of the first
unfoldable pub key_at : Superblock → Pass → (chroma : Bool) (cells : List ℕ) (edge c : ℕ) → ℕ
key_at s pass chroma cells edge c = key_of (decision s pass chroma cells edge (cell_start s pass c))

-- The keys of the outer edges, 2 * e (parity 0), or of the inner ones, 2 * e + 1 (parity 1): that of cell c at place 8 * e + c, and 0
-- behind the last edge.
unfoldable pub key_in : Superblock → Pass → (chroma : Bool) (cells : List ℕ) (parity k : ℕ) → ℕ
key_in s pass chroma cells parity k =
    let edge = 2 * (k / 8) + parity in
    cond (ltb edge (edge_count s pass)) (key_at s pass chroma cells edge (k % 8)) 0

unfoldable pub keys_of : Superblock → Pass → (chroma : Bool) (cells : List ℕ) (parity : ℕ) → List ℕ
keys_of s pass chroma cells parity = table (key_in s pass chroma cells parity) 64

-- what is told of a pass: its keys, and the first decided position that reads a cell without level
abbrev pub Told : Superblock → Pass → (chroma : Bool) (cells : List ℕ) → Keys → Type 0
Told s pass chroma cells r =
    (r.outer ≡ keys_of s pass chroma cells 0) × (r.inner ≡ keys_of s pass chroma cells 1) × (r.lacking ≡ first_found (levelless s pass chroma cells) (64 * edge_count s pass))
