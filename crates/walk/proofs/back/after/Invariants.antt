use mathlib.Core.Path.{◌≡◌}
use Rattle.walk.specs.model.Return.{iterate}
use Rattle.listfile.specs.model.Table.{first_fields}
use Rattle.walk.specs.model.Back.{step_spot}
use Rattle.walk.proofs.back.after.Given as goal

abbrev pub invariant-loop-i : goal.invariant-loop-i
invariant-loop-i l = l.here ≡ iterate (step_spot (first_fields l.list l.count)) l.i l.initial.here
