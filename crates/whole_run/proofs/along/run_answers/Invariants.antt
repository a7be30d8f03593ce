-- `run_answers` goes on over answers and along the walk: the invariant is that the run stands before a word. Each turn takes the answers of an
-- instruction, of which there is one at least.
use Prim.Native.Nat.{◌-◌, ◌*◌}
use lib.ListN.{length}
use Rattle.whole_run.proofs.RunTurn.{Run, BeforeWord}
use Rattle.whole_run.proofs.along.run_answers.Given as goal

abbrev pub invariant-loop-here : goal.invariant-loop-here
invariant-loop-here l =
    let z : Run = record { list = l.list; table = l.table; sizes = l.sizes; row = l.row; before = l.r; from = l.from; buffer = l.initial.incoming } in
    BeforeWord z l.longword l.spot l.here l.incoming

abbrev pub decreases-loop-here : goal.decreases-loop-here
decreases-loop-here l = length l.row - l.here.taken * 8
