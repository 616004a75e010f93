-- Keys by plain numbers: those of a pass, turned so that it goes from edge to edge and along each; those of an edge; and a cell's word.
-- Assumes nothing.
use Rattle.std.specs.Prelude.{◌≡◌, Bool, cond, not, ◌&&◌, ◌||◌, List, ℕ, ◌+◌, ◌-◌, ◌*◌, ◌/◌, ◌%◌, ◌^◌, ◌≤◌, ◌<◌, eqb, ltb, length, get_or, replicate, Option, Some, None}
use Rattle.base.specs.Filled.{filled}
use Rattle.base.specs.First.{first, found}
use Rattle.cells.specs.Cell.{bit}
use Rattle.decisions.specs.Decision.{Decision, without_level, cell_place}
use Rattle.geometry.specs.declared.Pass.{Pass}
use Rattle.geometry.specs.declared.Pass.TheVariants.{Vertical, Horizontal}
use Rattle.geometry.specs.declared.Superblock.{Superblock}
use Rattle.keys.specs.Keys.{key_of}
use Rattle.keys.specs.declared.edge_keys.Keys.{Keys}
use Rattle.keys.specs.declared.edge_limits.EdgeLimits.{EdgeLimits}
use Rattle.keys.specs.declared.turned.Turned.{Turned}

-- the numbers of a pass: see the struct
unfoldable pub turned_of : Superblock → Pass → (chroma : Bool) → Turned
turned_of s Vertical chroma =
    record {
      sub = s.subx;
      start = s.col;
      count = s.cols;
      paired = s.suby;
      shown = s.rows - s.row;
      coded = 8;
      from = s.col;
      across = 1;
      along = s.cols;
      log = cond s.subx 28 30;
      tx = cond chroma 20 22;
    }
turned_of s Horizontal chroma =
    record {
      sub = s.suby;
      start = s.row;
      count = s.rows;
      paired = s.subx;
      shown = s.cols - s.col;
      coded = cond (s.subx && eqb (s.cols % 2) 1) (s.cols - 1 - s.col) 8;
      from = s.col;
      across = s.cols;
      along = 1;
      log = cond s.suby 24 26;
      tx = cond chroma 20 22;
    }

-- pairs of edges
abbrev pub pairs : (sub : Bool) → ℕ
pairs sub = cond sub 4 8

-- how often 2 divides an edge's number, up to 4 times
abbrev pub halvings : (edge : ℕ) → ℕ
halvings edge = bit (eqb (edge % 2) 0) + bit (eqb (edge % 4) 0) + bit (eqb (edge % 8) 0) + bit (eqb (edge % 16) 0)

-- the cell across in which an edge lies, and that which its positions read, from the superblock's first on
abbrev pub own : (sub : Bool) (edge : ℕ) → ℕ
own sub edge = cond sub edge (edge / 2)

abbrev pub offset : (sub : Bool) (e : ℕ) → ℕ
offset sub e = cond sub (2 * e) e

-- the cell along that cell c reads
abbrev pub rounded : (paired : Bool) (c : ℕ) → ℕ
rounded paired c = cond paired (c - c % 2) c

abbrev pub on_edge : (start count : ℕ) (sub : Bool) (edge : ℕ) → Bool
on_edge start count sub edge = ltb (start + own sub edge) count && not (eqb edge 0 && eqb start 0)

-- The numbers of an edge: see the struct. Edges are 4 samples of the plane apart. A transform is counted in 4 samples of the plane, a
-- block in 8 of luma.
unfoldable pub limits_of : Turned → (edge : ℕ) → EdgeLimits
limits_of t edge =
    record {
      shown = cond (on_edge t.start t.count t.sub edge) t.shown 0;
      coded = cond (eqb (edge % 2) 1) t.coded 8;
      block = halvings edge + bit t.sub;
      transform = halvings edge + 1;
      wide = eqb (edge % 8) 0;
      narrow = t.sub && eqb (t.start + own t.sub edge + 1) t.count;
    }

-- what is decided by the limits of an edge of cell c, whose word is w, with log the block's logarithm and tx the transform
unfoldable pub plain : EdgeLimits → (log tx c w : ℕ) → Decision
plain n log tx c w =
    record {
      decided = ltb c n.shown && (ltb log n.block || (ltb c n.coded && ltb tx n.transform) && not (eqb (w / 2 ^ 19 % 2) 1));
      present = eqb (w / 2 ^ 18 % 2) 1;
      size = bit (n.wide || ltb 0 tx) + bit (not n.narrow && ltb 1 tx);
      level = w / 2 ^ 12 % 64;
    }

abbrev pub field : (shift w : ℕ) → ℕ
field shift w = w / 2 ^ shift % 4

-- of the word at place k of the words of a pass, whose logarithm and transform stand at log and tx
abbrev pub plain_in : EdgeLimits → (log tx : ℕ) (words : List ℕ) (k : ℕ) → Decision
plain_in n log tx words k =
    let w = get_or words k 0 in
    plain n (field log w) (field tx w) (k % 8) w

unfoldable pub key_by : EdgeLimits → (log tx : ℕ) (words : List ℕ) (k : ℕ) → ℕ
key_by n log tx words k = key_of (plain_in n log tx words k)

-- whether a level lacks at the outer or the inner edge
unfoldable pub lack_by : (outer inner : EdgeLimits) (log tx : ℕ) (words : List ℕ) (k : ℕ) → Bool
lack_by n m log tx words k = without_level (plain_in n log tx words k) || without_level (plain_in m log tx words k)

-- of the cells from place s on
unfoldable pub lack_from : (outer inner : EdgeLimits) (log tx : ℕ) (words : List ℕ) (s c : ℕ) → Bool
lack_from n m log tx words s c = lack_by n m log tx words (s + c)

abbrev pub limits_in : Turned → (parity k : ℕ) → EdgeLimits
limits_in t parity k = limits_of t (2 * (k / 8) + parity)

unfoldable pub plain_key : Turned → (words : List ℕ) (parity k : ℕ) → ℕ
plain_key t words parity k = key_by (limits_in t parity k) t.log t.tx words k

unfoldable pub plain_lack : Turned → (words : List ℕ) (k : ℕ) → Bool
plain_lack t words k = lack_by (limits_in t 0 k) (limits_in t 1 k) t.log t.tx words k

-- the keys of a pass by its words
abbrev pub plain_keys : Turned → (words : List ℕ) (parity : ℕ) → List ℕ
plain_keys t words parity = filled (plain_key t words parity) 0 (8 * pairs t.sub) (replicate 64 0)

-- whether a level lacks at cell k, 8 cells to an edge; the two edges of a pair read the same words
unfoldable pub lack_at : Turned → (words : List ℕ) (k : ℕ) → Bool
lack_at t words k = without_level (plain_in (limits_of t (k / 8)) t.log t.tx words (8 * (k / 16) + k % 8))

-- and the place of the first position of the first such cell, if there is one
abbrev pub place_by : Turned → (words : List ℕ) → Option ℕ
place_by t words = cond (found (lack_at t words) (16 * pairs t.sub)) (Some (cell_place t.paired (first (lack_at t words) (16 * pairs t.sub)))) None

-- what is told of a pass by its words
abbrev pub PlainTold : Turned → (words : List ℕ) → Keys → Type 0
PlainTold t words r =
    (r.outer ≡ plain_keys t words 0) × (r.inner ≡ plain_keys t words 1) × (r.lacking ≡ cond (found (plain_lack t words) (8 * pairs t.sub)) (place_by t words) None)

-- the place of the first cell that edge pair e reads, and that of the cell at c from there
abbrev pub base_of : Turned → (e : ℕ) → ℕ
base_of t e = t.from + offset t.sub e * t.across

abbrev pub place_from : (base : ℕ) (paired : Bool) (along c : ℕ) → ℕ
place_from base paired along c = base + rounded paired c * along

-- a place behind the list is off the screen: any word is as good there
abbrev pub clamped : (place size : ℕ) → ℕ
clamped place size = cond (ltb place size) place 0

unfoldable pub word_from : (base : ℕ) (paired : Bool) (along : ℕ) (cells : List ℕ) (k : ℕ) → ℕ
word_from base paired along cells k = get_or cells (clamped (place_from base paired along (k % 8)) (length cells)) 0

unfoldable pub word_in : Turned → (cells : List ℕ) (k : ℕ) → ℕ
word_in t cells k = word_from (base_of t (k / 8)) t.paired t.along cells k

-- a list with the words of a pass at its front
abbrev pub fetched : Turned → (cells words : List ℕ) → List ℕ
fetched t cells words = filled (word_in t cells) 0 (8 * pairs t.sub) words

-- how large the numbers of a pass are
pub record Small (t : Turned) : Type 0 where
  pub start : t.start ≤ 8192
  pub from : t.from ≤ 8192
  pub across : t.across ≤ 8192
  pub along : t.along ≤ 8192
  pub log : t.log < 32
  pub tx : t.tx < 32
