-- Windows that pass test 12 with a list of some length.
-- Assumes nothing.
use Rattle.std.specs.Prelude.{ℕ}
use Rattle.window.specs.WindowLaws.{Lent}
use Rattle.window.specs.declared.WindowShape.{WindowShape}

pub record Lendable (g : WindowShape) : Type 0 where
  pub size : ℕ
  pub lent : Lent g size
