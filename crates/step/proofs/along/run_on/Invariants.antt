-- `run_on` is `run_on` over the rest of the walk: the invariant is that from here the walk gives what it gives from `from`, with its room
-- kept; the rest of the walk grows shorter.
use Prim.Native.Nat.{ℕ}
use mathlib.Core.Path.{◌≡◌}
use mathlib.Core.List.{List}
use lib.ListN.{length}
use Rattle.walk.specs.model.Sums.{rest_from}
use Rattle.reply.specs.Effect.{run_on, state_of}
use Rattle.step.specs.model.Onward.{Going}
use Rattle.step.proofs.along.run_on.Given as goal

abbrev pub invariant-loop-next : goal.invariant-loop-next
invariant-loop-next l =
    ((out : List ℕ) → run_on (rest_from l.list l.count l.at) (state_of l.here l.incoming out) ≡ run_on (rest_from l.list l.count l.initial.at) (state_of l.initial.here l.initial.incoming
    out)) × (Going l.list l.count l.at l.here l.incoming × (length l.incoming ≡ length l.initial.incoming))

abbrev pub decreases-loop-next : goal.decreases-loop-next
decreases-loop-next l = length (rest_from l.list l.count l.at)
