-- Each turn goes on by a field's head at least, and no more instructions are counted than bytes passed.
use Prim.Native.Nat.{◌-◌, ◌≤◌}
use Rattle.explain.proofs.print_fields.Given as goal

abbrev pub invariant-loop-at : goal.invariant-loop-at
invariant-loop-at g l = l.count ≤ l.at

abbrev pub decreases-loop-at : goal.decreases-loop-at
decreases-loop-at g l = l.end - l.at
