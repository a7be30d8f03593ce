use Prim.Native.Nat.{ℕ, ◌+◌, ◌<◌}
use mathlib.Core.Path.{◌≡◌}
use Rattle.walk.specs.model.Return.{iterate}
use Rattle.listfile.specs.model.Table.{first_fields}
use Rattle.walk.specs.model.Back.{step_spot}
use Rattle.walk.proofs.back.way_in.Given as goal

abbrev pub invariant-loop-w : goal.invariant-loop-w
invariant-loop-w l =
    (l.behind ≡ iterate (step_spot (first_fields l.list l.count)) l.w l.initial.behind) × (l.ahead ≡ iterate (step_spot (first_fields l.list l.count)) (l.w + l.p) l.initial.behind)
    × ((v : ℕ) → v < l.w → iterate (step_spot (first_fields l.list l.count)) (v + l.p) l.initial.behind ≡ iterate (step_spot (first_fields l.list l.count)) v l.initial.behind → ⊥)
