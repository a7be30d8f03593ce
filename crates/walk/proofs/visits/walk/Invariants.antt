-- The loop's invariant: the walk from its start comes to what the walk from here with the sums so far comes to, and each visit added at most
-- 2^48 to each sum.
use Prim.Native.Nat.{◌-◌, ◌*◌, ◌^◌}
use mathlib.Core.Path.{◌≡◌}
use Rattle.listfile.specs.model.Table.{first_fields}
use Rattle.walk.specs.Walk.{first_spot, walk_from}
use Rattle.walk.specs.model.Sums.{SumsTo}
use Rattle.walk.proofs.WalkLaws.{no_counts, ahead}
use Rattle.walk.proofs.visits.walk.Given as goal

abbrev pub invariant-loop-visits : goal.invariant-loop-visits
invariant-loop-visits l =
    (ahead l.limit (walk_from l.sizes.count (first_fields l.list l.sizes.count) first_spot) no_counts
    ≡ ahead l.limit (walk_from (l.sizes.count - l.visits) (first_fields l.list l.sizes.count) l.here) l.sums)
    × SumsTo (2 ^ 48 * l.visits) l.sums
