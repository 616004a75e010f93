-- The work of a pass by keys: where cells tell them, it is the pass over these cells.
-- Assumes nothing.
use Rattle.std.specs.Prelude.{◌≡◌, Bool, List, ℕ}
use Rattle.decided.specs.Decided.{setting}
use Rattle.geometry.specs.declared.Pass.{Pass}
use Rattle.geometry.specs.declared.Superblock.{Superblock}
use Rattle.keys.specs.Keys.{Told}
use Rattle.keys.specs.declared.edge_keys.Keys.{Keys}
use Rattle.window.specs.declared.WindowShape.{WindowShape}
use Rattle.pass.specs.Pass.{superblock_loop_filter}

pub record FilteredBy (g : WindowShape) (s : Superblock) (pass : Pass) (sharpness depth : ℕ) (keys : Keys) (before after : List ℕ) : Type 0 where
  pub told : (chroma : Bool) (cells : List ℕ) → Told s pass chroma cells keys → after ≡ superblock_loop_filter g (setting s chroma sharpness depth cells) pass before
