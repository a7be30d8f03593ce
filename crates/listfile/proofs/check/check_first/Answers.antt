-- `check_first` answers as `first_fault`: at each return the checks before a place failed, and the one there holds.
use borrow.Author.Tests.{eq-eqb, ne_eqb, lt-ltb, le-ltb}
use mathlib.Core.Bool.{not}
use mathlib.Core.Path.{sym, ap, ◌∙◌}
use native.Mathlib.Omega.{arith}
use lib.ListN.{length}
use Rattle.base.specs.Bytes.{short_at}
use Rattle.listfile.specs.Fields.{body_length, next_field}
use Rattle.listfile.proofs.FirstLaws.{first_by, first_inside}
use Rattle.listfile.proofs.check.check_first.Goals as goal

pub returns-then-is_empty : goal.returns-then-is_empty
returns-then-is_empty c = first_by _ 0 (sym c.is_empty.ensures ∙ c.if-is_empty.true)

pub returns-then-list-lt3 : goal.returns-then-list-lt3
returns-then-list-lt3 c = first_by _ 1 (sym c.is_empty.ensures ∙ c.if-is_empty.false, lt-ltb _ _ c.if-list-lt3.true)

pub returns-then-list-len : goal.returns-then-list-len
returns-then-list-len c =
    let l = c.args.list.now in
    first_by l 2 (ne_eqb (length l) 0 (λ e. omega arith), (le-ltb (length l) 3 (omega arith), lt-ltb (length l) (next_field l 0) (omega arith)))

pub returns-then-len-ne4 : goal.returns-then-len-ne4
returns-then-len-ne4 c =
    let l = c.args.list.now in
    first_inside l 0 (omega arith) (ap not (ne_eqb (body_length l 0) 4 (λ e. omega arith)))

pub returns-then-short_at-lt1 : goal.returns-then-short_at-lt1
returns-then-short_at-lt1 c =
    let l = c.args.list.now in
    first_inside l 1 (omega arith) (ap not (eq-eqb (body_length l 0) 4 (omega arith)), lt-ltb (short_at l 5) 1 (omega arith))

pub returns-then-is_first : goal.returns-then-is_first
returns-then-is_first c =
    let l = c.args.list.now in
    first_inside l 3 (omega arith)
    (ap not (eq-eqb (body_length l 0) 4 (omega arith)), (le-ltb (short_at l 5) 1 (omega arith), (ap not (sym c.is_first.ensures ∙ c.if-is_first.true), tt)))

pub returns : goal.returns
returns c =
    let l = c.args.list.now in
    first_inside l 2 (omega arith)
    (ap not (eq-eqb (body_length l 0) 4 (omega arith)), (le-ltb (short_at l 5) 1 (omega arith), ap not (sym c.is_first.ensures ∙ c.if-is_first.false)))
