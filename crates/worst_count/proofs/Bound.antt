-- Demand 3, whole: WorstHeld has the upper half, WorstReached the attained half.
use Rattle.worst_count.specs.WorstCount.{WorstCount}
use Rattle.worst_count.proofs.WorstHeld.{start_unrefused, worst_held}
use Rattle.worst_count.proofs.WorstReached.{worst_reached}

pub worst_count : WorstCount
worst_count list i o c bytes admitted = (start_unrefused list i o c bytes admitted, worst_held list i o c bytes admitted, worst_reached list i o c bytes admitted)
