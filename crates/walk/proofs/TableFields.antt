-- Field k by a table of places: entry k of a right table is the place of field k of the fields passed, and the instruction read there is its
-- instruction. At their number and past it there is no field.
use Prim.Native.Nat.{ℕ, zero, suc, ◌≤◌, ◌<◌}
use mathlib.Core.Path.{◌≡◌, refl, ◌∙◌}
use mathlib.Core.List.{List, [], ◌∷◌}
use mathlib.Core.Option.{none, some}
use native.Mathlib.Omega.{arith}
use lib.ListN.{length, get_or}
use Rattle.listfile.specs.Fields.{Field}
use Rattle.listfile.specs.model.Table.{instruction_at, first_fields, TableRight}
use Rattle.listfile.specs.declared.field.Instruction.{Instruction}
use Rattle.listfile.proofs.PassLaws.{here, count_fields, entry_field}
use Rattle.walk.specs.Walk.{field_at}

field_in : (fs : List Field) (k : ℕ) (d : Field) → k < length fs → field_at fs k ≡ some (get_or fs k d)
field_in [] k d h = absurd (omega arith)
field_in (f ∷ fs) zero d h = refl
field_in (f ∷ fs) (suc k) d h = field_in fs k d (omega arith)

field_out : (fs : List Field) (k : ℕ) → length fs ≤ k → field_at fs k ≡ none
field_out [] k h = refl
field_out (f ∷ fs) zero h = absurd (omega arith)
field_out (f ∷ fs) (suc k) h = field_out fs k (omega arith)

pub field_past : (list : List ℕ) (n k : ℕ) → n ≤ k → field_at (first_fields list n) k ≡ none
field_past list n k h = field_out (first_fields list n) k (rw (count_fields list n) h)

pub field_here : (list table : List ℕ) (n k at : ℕ) (i : Instruction) → k < n → TableRight list table n
    → at ≡ get_or table k 0 → i ≡ instruction_at list at
    → field_at (first_fields list n) k ≡ some (record { place = at; instruction = i })
field_here list table n k at i h right ea ei =
    field_in (first_fields list n) k (here list 0) (rw (count_fields list n) h)
    ∙ rw (entry_field list n k (here list 0) h, ← right.entry k h, ← ea, ← ei)
