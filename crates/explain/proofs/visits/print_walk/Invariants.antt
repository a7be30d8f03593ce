-- Each visit adds at most 2^48 to each sum.
use Rattle.std.proofs.Common.{◌*◌, ◌^◌}
use Rattle.walk.specs.model.Sums.{SumsTo}
use Rattle.explain.proofs.visits.print_walk.Given as goal

abbrev pub invariant-loop-visit : goal.invariant-loop-visit
invariant-loop-visit g l = SumsTo (2 ^ 48 * l._visit) l.sums
