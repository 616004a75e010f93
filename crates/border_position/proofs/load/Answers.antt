use Rattle.std.proofs.Common.{◌≡◌, ℕ, refl, map, get_or, rules, of_calls}
use Rattle.base.specs.FromFn.{from_fn_each}
use Rattle.window.specs.StencilLaws.{gather-filled}
use Rattle.window.specs.Window.{tap_read}
use Rattle.border_position.specs.Holds.{Holds}
use Rattle.border_position.proofs.load.Goals as goal

pub returns : goal.returns
returns g c =
    let a = c.args in
    let items = c.from_fn.ensures.items in
    let each = from_fn_each _ (λ k (y : ℕ). (y ≡ get_or (map g.S.LentSample.value a.samples.now) (tap_read a.g a.p.pass a.p.x a.p.y k) 0) × Holds g.S.LentSample.width y) (λ f. (f.0.now ≡ a.samples.now) × (f.1 ≡ a.g) × (f.2 ≡ a.p)) 16 (λ f f' k y below h call. (rw (← h.0, ← h.1, ← h.2) (search (rules, of_calls)), search rules)) _ c.from_fn.result 0 (refl, refl, refl) items in
    (gather-filled _ 16 _ _ items.long (λ k below. (each k below).0), record { each = λ k below. (each k below).1 })
