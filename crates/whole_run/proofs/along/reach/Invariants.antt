-- `reach` passes jumps and literals: the invariant is that the walk from here gives for every record with these marks what it gives from
-- `from`, with its room kept; the rest of the walk grows shorter. An admitted field's first byte tells its kind.
use lib.ListN.{length}
use Rattle.walk.specs.model.Sums.{rest_from}
use Rattle.whole_run.proofs.Reach.{Came}
use Rattle.whole_run.proofs.along.reach.Given as goal

abbrev pub invariant-loop-longword : goal.invariant-loop-longword
invariant-loop-longword l = Came l.list l.count l.initial.at l.initial.marks l.initial.incoming l.at l.marks l.incoming

abbrev pub decreases-loop-longword : goal.decreases-loop-longword
decreases-loop-longword l = length (rest_from l.list l.count l.at)
