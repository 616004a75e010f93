use Rattle.std.proofs.Common.{◌≡◌, refl, ℕ, ◌/◌, get_or, rules, of_calls}
use Rattle.base.specs.FromFn.{from_fn_each}
use Rattle.byte_pass.proofs.chunk_keys.spread.Goals as goal

pub returns : goal.returns
returns c =
    let a = c.args in
    from_fn_each _ (λ k (y : ℕ). y ≡ get_or a.cells.now (k / a.len) 0) (λ f. (f.0.now ≡ a.cells.now) × (f.1 ≡ a.len)) 16 (λ f f' k y below h call. (rw (← h.0, ← h.1) (search (rules, of_calls)), search rules)) _ c.from_fn.result 0 (refl, refl) c.from_fn.ensures.items
