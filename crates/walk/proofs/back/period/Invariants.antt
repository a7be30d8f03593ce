use Prim.Native.Nat.{ℕ, ◌≤◌, ◌<◌}
use mathlib.Core.Path.{◌≡◌}
use Rattle.walk.specs.model.Return.{iterate}
use Rattle.listfile.specs.model.Table.{first_fields}
use Rattle.walk.specs.model.Back.{step_spot}
use Rattle.walk.proofs.back.period.Given as goal

abbrev pub invariant-loop-p : goal.invariant-loop-p
invariant-loop-p l =
    (l.here ≡ iterate (step_spot (first_fields l.list l.count)) l.p l.spot)
    × ((q : ℕ) → 0 < q → q ≤ l.p → iterate (step_spot (first_fields l.list l.count)) q l.spot ≡ l.spot → ⊥)
