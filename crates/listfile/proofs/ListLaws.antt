-- Refusals 1 to 10 in their order, by what the checks of the first field, the pass over the fields and the check of jumps answer.
use Prim.Native.Nat.{ℕ, zero, suc, ◌≤◌}
use mathlib.Core.Path.{◌≡◌, refl, subst}
use mathlib.Core.List.{List}
use native.Mathlib.Omega.{arith}
use lib.ListN.{length}
use Rattle.std.specs.Prelude.{Result, Ok, Err, Option, Some, None}
use Rattle.base.specs.Bytes.{short_at}
use Rattle.base.specs.Refusals.{number_of, told}
use Rattle.base.specs.declared.refusals.Fault.{Fault}
use Rattle.base.specs.declared.refusals.Refused.{Refused}
use Rattle.base.proofs.Faults.{number_above}
use Rattle.listfile.specs.Fields.{first_fault, fields_from, first_bad_jump, refused, program, after_first, program_of}
use Rattle.listfile.specs.model.Table.{first_fields, TableRight, Beyond, fields_by, TableBy, bad_jump_by}
use Rattle.listfile.specs.declared.check.Extent.{Extent}
use Rattle.listfile.proofs.PassLaws.{count_fields}

pub list_first : (list : List ℕ) (f : Fault) (r : Refused) → number_of f ≡ first_fault list → r ≡ record { fault = f; place = 0 }
    → program_of list ≡ refused (told r)
unfolding program_of
list_first list f r e h = rw (← e, h) (go (number_of f) (omega (arith, number_above f)))
  where
    go : (n : ℕ) → 1 ≤ n → after_first n list ≡ refused (record { number = n; place = 0 })
    go zero h = absurd (omega arith)
    go (suc n) h = refl

module _ (list : List ℕ) (first : 0 ≡ first_fault list) (p : Result Extent Refused) (ep : fields_from (length list) list 7 0 ≡ fields_by list p) where
  pub list_fields : (r : Refused) → p ≡ Err r → program_of list ≡ refused (told r)
  unfolding program_of
  list_fields r e = rw (← first, ep, e)

  module _ (x : Extent) (en : p ≡ Ok x) (j : Option ℕ) (ej : first_bad_jump x.count (first_fields list x.count) ≡ bad_jump_by j) where
    pub list_jumps : (place : ℕ) → j ≡ Some place → program_of list ≡ refused (record { number = 10; place = place })
    unfolding program_of
    list_jumps place e = rw (← first, ep, en, count_fields list x.count, ej, e)

    pub list_program : (limit : ℕ) → limit ≡ short_at list 5 → j ≡ None
        → program_of list ≡ program (record { limit = limit; fields = first_fields list x.count })
    unfolding program_of
    list_program limit el e = rw (← first, ep, en, count_fields list x.count, ej, e, el)

pub table_counted : (list table : List ℕ) (p : Result Extent Refused) (x : Extent) → p ≡ Ok x → TableBy list table p
    → (x.count ≤ 4096) × (TableRight list table x.count × Beyond list x.count x.furthest)
table_counted list table p x e t = subst (λ (q : Result Extent Refused). TableBy list table q) e t
