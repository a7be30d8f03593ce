-- `fields_from` by its equations: no fuel left, at the list's end, and one field in front of the others. No other file looks at its fuel.
use Prim.Native.Nat.{ℕ, suc, ◌+◌, ◌≤◌, ◌<◌}
use mathlib.Core.Path.{◌≡◌, refl}
use mathlib.Core.List.{List, []}
use borrow.Author.Tests.{le-leb, lt-leb}
use lib.ListN.{length}
use Rattle.listfile.specs.Fields.{next_field, field_of, faulty, fields, joined, fields_from}

pub fields_none : (list : List ℕ) (at count : ℕ) → fields_from 0 list at count ≡ faulty (record { number = 1; place = at })
unfolding fields_from
fields_none list at count = refl

pub fields_end : (fuel : ℕ) (list : List ℕ) (at count : ℕ) → length list ≤ at → fields_from (suc fuel) list at count ≡ fields []
unfolding fields_from
fields_end fuel list at count h = rw (le-leb (length list) at h)

pub fields_on : (fuel : ℕ) (list : List ℕ) (at count : ℕ) → at < length list
    → fields_from (suc fuel) list at count ≡ joined at (field_of list at count) (fields_from fuel list (next_field list at) (count + 1))
unfolding fields_from
fields_on fuel list at count h = rw (lt-leb (length list) at h)
