-- The loop's invariant: the first bad jump of all fields is the first of those from k on.
use mathlib.Core.Path.{◌≡◌}
use lib.ListN.{drop}
use Rattle.listfile.specs.Fields.{first_bad_jump}
use Rattle.listfile.specs.model.Table.{first_fields}
use Rattle.listfile.proofs.check.check_jumps.Given as goal

abbrev pub invariant-loop-k : goal.invariant-loop-k
invariant-loop-k l = first_bad_jump l.count (first_fields l.list l.count) ≡ first_bad_jump l.count (drop l.k (first_fields l.list l.count))
