use Rattle.std.proofs.Common.{◌≡◌, refl, ◌∙◌, ℕ, ◌<◌, ◌≤◌, Bool, false, List, get_or, min, arith, zero-add}
use Rattle.std.proofs.Math.ListN.{length-set}
use Rattle.base.specs.Filled.{filled_none, filled_more}
use Rattle.base.specs.First.{found, found-false}
use Rattle.blocks.specs.BlockSizes.{by_size}
use Rattle.blocks.specs.BlockSizesLaws.{by_size_lem}
use Rattle.blocks.specs.ModeInfoLaws.{Block, block}
use Rattle.cells.specs.Cell.{packed}
use Rattle.chroma_transforms.specs.ChromaTransforms.{uv_limit}
use Rattle.chroma_transforms.specs.ChromaTransformsLaws.{uv_tx}
use Rattle.row.specs.Row.{ModeInfo, cell_from, cell_at, word_at, bad_at}
use Rattle.row.specs.RowLists.{lists_of, mi_at}
use Rattle.row.specs.declared.mode_info.CellMi.{CellMi}
use Rattle.row.proofs.row_cells_unchecked.Goals as goal

sound : (m : ModeInfo) (n : ℕ) → found (bad_at m) n ≡ false → (k : ℕ) → k < n → Block (get_or m.sizes k 0) (get_or m.txs k 0) (get_or m.skips k 0)
sound m n e k h = block _ _ _ (found-false (bad_at m) n e k h)

-- the word of a cell, by the lesser of its transform and the limit
abbrev word_by : List ℕ → List ℕ → CellMi → ℕ
word_by levels limits mi =
    packed (cell_from levels mi.mi_size mi.tx_size (min mi.tx_size (get_or limits mi.mi_size 0)) mi.skip mi.ref_frame mi.y_mode mi.segment_id)

word_is : (m : ModeInfo) (levels limits : List ℕ) (subx suby : Bool) (k : ℕ) → limits ≡ by_size (uv_limit subx suby) → get_or m.sizes k 0 ≤ 12 → word_by levels limits (mi_at m k) ≡ word_at m levels subx suby k
unfolding cell_at
word_is m levels limits subx suby k e h =
    rw (e, by_size_lem (uv_limit subx suby) (get_or m.sizes k 0) h, uv_tx (get_or m.txs k 0) (get_or m.sizes k 0) subx suby)

pub loop-k-init : goal.loop-k-init
loop-k-init c = (refl, filled_none _ _ _)

pub word_unchecked-requires : goal.word_unchecked-requires
word_unchecked-requires c =
    let h : c.loop-k.k < c.args.count = omega arith in
    let s = sound (lists_of c.args.lists) _ c.requires.2 c.loop-k.k h in
    rw c.at_unchecked.ensures (s.size, s.tx)

pub loop-k-preserved : goal.loop-k-preserved
loop-k-preserved c =
    let a = c.args in
    let k = c.loop-k.k in
    let h : k < a.count = omega arith in
    let s = sound (lists_of a.lists) _ c.requires.2 k h in
    let word = c.word_unchecked.ensures ∙ (rw (c.new_unchecked-tables.ensures.0, c.at_unchecked.ensures) (word_is (lists_of a.lists) a.levels.now c.new_unchecked-tables.result.limits a.subx a.suby k c.new_unchecked-tables.ensures.1 s.size)) in
    (simp length-set c.loop-k.invariant.0, rw (c.loop-k.invariant.1, word) (rw (zero-add k) at (filled_more (word_at (lists_of a.lists) a.levels.now a.subx a.suby) 0 k a.cells.now)))
