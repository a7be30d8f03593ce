-- The loop's invariant: all fields are those passed, in front of those from here on; the place is the next instruction's, at most eleven
-- bytes on by instruction; the table is right so far, and no jump leads to `furthest` or past it. The measure is what is left of the list.
use Prim.Native.Nat.{◌+◌, ◌-◌, ◌*◌, ◌≤◌}
use mathlib.Core.Path.{◌≡◌}
use lib.ListN.{length}
use Rattle.listfile.specs.Fields.{fields_from}
use Rattle.listfile.specs.model.Table.{place_of, first_fields, TableRight, Beyond}
use Rattle.listfile.proofs.PassLaws.{prefixed}
use Rattle.listfile.proofs.check.pass_fields.Given as goal

abbrev pub invariant-loop-at : goal.invariant-loop-at
invariant-loop-at l =
    (fields_from (length l.list) l.list 7 0 ≡ prefixed (first_fields l.list l.count)
    (fields_from (length l.list - l.count) l.list l.at l.count))
    × (l.at ≡ place_of l.list l.count) × (7 + 3 * l.count ≤ l.at) × (l.at ≤ 7 + 11 * l.count) × (l.at ≤ length l.list) × (l.count ≤ 4096)
    × (length l.table ≡ 4096) × TableRight l.list l.table l.count × Beyond l.list l.count l.furthest

abbrev pub decreases-loop-at : goal.decreases-loop-at
decreases-loop-at l = length l.list - l.at
