-- `run_replies` is the run over the row. The loop's invariant: the run from the row's beginning is the run from the present place on, and the
-- record has ended or fits. A turn of the loop runs over answers and takes one reply more.
use Prim.Native.Nat.{◌-◌, ◌*◌}
use mathlib.Core.Path.{◌≡◌}
use lib.ListN.{length}
use Rattle.walk.specs.model.Sums.{plan_by}
use Rattle.whole_run.specs.model.Row.{Moves}
use Rattle.whole_run.proofs.run_replies.Given as goal

abbrev pub invariant-loop-k : goal.invariant-loop-k
invariant-loop-k l =
    Moves (plan_by l.list l.sizes) l.row l.initial.here (l.initial.k * 8) l.initial.incoming l.here (l.k * 8) l.incoming × (length l.incoming ≡ length l.initial.incoming)

abbrev pub decreases-loop-k : goal.decreases-loop-k
decreases-loop-k l = l.count - l.k
