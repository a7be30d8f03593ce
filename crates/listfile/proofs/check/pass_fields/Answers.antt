-- The loop's invariant: all fields are those passed, in front of those from here on; the place is the next instruction's, at most eleven
-- bytes on by instruction; the table is right so far, and no jump leads to `furthest` or past it. The measure is what is left of the list.
use mathlib.Core.Path.{refl, sym, ap, ◌∙◌}
use native.Mathlib.Omega.{arith}
use lib.ListN.{length-set}
use Rattle.base.specs.Refusals.{numbered}
use Rattle.listfile.specs.model.Table.{place_of}
use Rattle.listfile.proofs.FieldLaws.{field_lies}
use Rattle.listfile.proofs.PassLaws.{pass_start, pass_refused, pass_turn, pass_end, place_more, table_none, table_more, beyond_none, beyond_more}
use Rattle.listfile.proofs.check.pass_fields.Goals as goal

pub loop-at-init : goal.loop-at-init
unfolding place_of
loop-at-init c = (
  pass_start c.args.list.now,
  refl,
  omega arith,
  omega arith,
  omega arith,
  omega arith,
  c.told-table,
  table_none _ _,
  beyond_none _ _,
)

pub returns-in-Err : goal.returns-in-Err
returns-in-Err c = (
  c.loop-at.invariant.0 ∙ pass_refused _ _ _ _ _ _ (omega arith) c.loop-at-test.true (sym c.read_at.ensures ∙ ap numbered c.in-Err.is),
  tt,
)

pub next_place-next-requires : goal.next_place-next-requires
next_place-next-requires c = omega arith

pub overflow_cast-table : goal.overflow_cast-table
overflow_cast-table c =
    let lies = field_lies _ _ _ _ (sym c.read_at.ensures ∙ ap numbered c.in-Ok.is)
    in
    omega (arith, c.next_place-next.ensures)

pub offset_bounds-table-count : goal.offset_bounds-table-count
offset_bounds-table-count c = omega arith

pub bounds-table-count : goal.bounds-table-count
bounds-table-count c =
    let lies = field_lies _ _ _ _ (sym c.read_at.ensures ∙ ap numbered c.in-Ok.is)
    in
    omega arith

pub overflow_add-count : goal.overflow_add-count
overflow_add-count c = omega arith

pub loop-at-smaller : goal.loop-at-smaller
loop-at-smaller c =
    let lies = field_lies _ _ _ _ (sym c.read_at.ensures ∙ ap numbered c.in-Ok.is)
    in
    omega (arith, c.next_place-next.ensures)

pub loop-at-preserved : goal.loop-at-preserved
loop-at-preserved c =
    let i = c.loop-at.invariant in
    let read = sym c.read_at.ensures ∙ ap numbered c.in-Ok.is in
    let next = c.next_place-next.ensures in
    let lies = field_lies _ _ _ _ read in (
      i.0 ∙ pass_turn _ _ _ _ _ (omega arith) c.loop-at-test.true read i.1 next,
      place_more _ _ _ _ i.1 next,
      omega arith,
      omega (arith, next),
      omega (arith, next),
      omega arith,
      simp length-set i.6,
      table_more _ _ _ _ _ i.7 (omega arith) i.1 read,
      beyond_more _ _ _ _ _ _ i.8 i.1 read c.beyond-furthest.ensures.0 c.beyond-furthest.ensures.1,
    )

pub returns : goal.returns
returns c = (
  c.loop-at.invariant.0 ∙ pass_end _ _ _ _ (omega arith) c.loop-at-test.false,
  (omega arith, (c.loop-at.invariant.7, c.loop-at.invariant.8)),
)
