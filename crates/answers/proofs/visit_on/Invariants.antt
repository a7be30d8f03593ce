-- `visit_on` passes words and waits: the invariant is a derivation of what was passed, with the room that is left. Each turn takes a
-- reply at least.
use Prim.Native.Nat.{◌-◌}
use mathlib.Core.Path.{◌≡◌}
use lib.ListN.{length}
use Rattle.answers.specs.model.Visit.{Passed, Roomy}
use Rattle.answers.proofs.visit_on.Given as goal

abbrev pub invariant-loop-here : goal.invariant-loop-here
invariant-loop-here l =
    Passed l.rules l.limit l.row l.answers l.initial.here l.initial.incoming l.here l.incoming × (Roomy l.rules l.row l.answers l.here l.incoming × (length l.incoming ≡ length l.initial.incoming))

abbrev pub decreases-loop-here : goal.decreases-loop-here
decreases-loop-here l = l.answers - l.here.taken
