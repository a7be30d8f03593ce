-- `find` is `find_in` over the whole walk: the invariant is that the search from here finds what it finds from the start, and that the sums
-- and those ahead come to the walk's.
use lib.ListN.{length}
use Rattle.walk.specs.Admission.{counts_of}
use Rattle.walk.specs.model.Sums.{rest_from, plan_by}
use Rattle.step.proofs.Search.{Finding}
use Rattle.step.proofs.place.find.Given as goal

abbrev pub invariant-loop-turn : goal.invariant-loop-turn
invariant-loop-turn l = Finding l.list l.sizes.count l.sizes.limit l.sought (counts_of (plan_by l.list l.sizes)) l.at l.sums

abbrev pub decreases-loop-turn : goal.decreases-loop-turn
decreases-loop-turn l = length (rest_from l.list l.sizes.count l.at)
