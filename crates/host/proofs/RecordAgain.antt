-- A record's numbers give that record again: each part is read from the place to which it is written, and none is too wide for a record whose
-- parts have their widths.
use Prim.Native.Nat.{◌≤◌}
use mathlib.Core.Path.{◌≡◌, refl}
use mathlib.Core.Bool.{Bool, true, false, not}
use Rattle.std.specs.Prelude.{Some}
use borrow.Author.Tests.{le-leb}
use lib.Dec.{eqb}
use Rattle.reply.specs.declared.records.Record.{Record}
use Rattle.calls.specs.Calls.{number_of, record_numbers}
use Rattle.host.specs.Numbers.{record_in}

ended_again : (b : Bool) → not (eqb (number_of b) 0) ≡ b
ended_again true = refl
ended_again false = refl

pub record_again : (r : Record) → r.position.station ≤ 255 → r.position.subaddress ≤ 255 → r.status ≤ 4294967295 → r.note.buffer ≤ 255
    → record_in (record_numbers r) ≡ Some r
record_again r n a status buffer =
    rw (le-leb _ _ n, le-leb _ _ a, le-leb _ _ status, le-leb _ _ buffer, ended_again r.ended)
