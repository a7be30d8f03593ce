-- `convert_all` converts longword by longword. The loop's invariant: what lies before is converted, and converting the rest gives the row converted whole.
use Prim.Native.Nat.{◌*◌}
use Rattle.scalers.proofs.Loops.{Converting}
use Rattle.scalers.proofs.rows.convert_all.Given as goal

abbrev pub invariant-loop-n : goal.invariant-loop-n
invariant-loop-n l = Converting l.way l.initial.row l.row (4 * l.n)
