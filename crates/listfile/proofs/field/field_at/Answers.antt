-- `field_at` is `field_of`: at each refusal the checks before a place failed and the one there holds; else the tag decides.
use borrow.Author.Tests.{lt-ltb, le-ltb, le-leb}
use Prim.Native.Nat.{◌+◌}
use mathlib.Core.Path.{◌∙◌}
use native.Mathlib.Omega.{arith}
use lib.ListN.{length}
use Rattle.listfile.specs.Fields.{next_field}
use Rattle.listfile.proofs.FieldLaws.{field_refused, field_inside}
use Rattle.listfile.proofs.field.field_at.Goals as goal

pub returns-then-list-at : goal.returns-then-list-at
returns-then-list-at c =
    let a = c.args in
    field_refused a.list.now a.at a.count 0 (lt-ltb (length a.list.now) (a.at + 3) (omega arith)) (λ e. omega arith)

pub returns-then-list-at-2 : goal.returns-then-list-at-2
returns-then-list-at-2 c = field_refused _ _ _ 0 (lt-ltb _ _ c.if-list-at-2.true) (λ e. omega arith)

pub returns-then-list-next : goal.returns-then-list-next
returns-then-list-next c =
    let a = c.args in
    field_refused a.list.now a.at a.count 1
    (le-ltb (length a.list.now) (a.at + 3) (omega arith), lt-ltb (length a.list.now) (next_field a.list.now a.at) (omega arith))
    (λ e. omega arith)

pub returns-then-count-ge-MOST_INSTRUCTIONS : goal.returns-then-count-ge-MOST_INSTRUCTIONS
returns-then-count-ge-MOST_INSTRUCTIONS c =
    let a = c.args in
    field_refused a.list.now a.at a.count 2 (
      le-ltb (length a.list.now) (a.at + 3) (omega arith),
      (le-ltb (length a.list.now) (next_field a.list.now a.at) (omega arith), le-leb 4096 a.count (omega arith)),
    )
    (λ e. omega arith)

pub returns : goal.returns
returns c = c.body_at.ensures ∙ field_inside _ _ _ (omega arith) c.if-count-ge-MOST_INSTRUCTIONS.false
