-- The loop's invariant: the walk from its start comes to what the walk from here with the sums so far comes to, and each visit added at most
-- 2^48 to each sum.
use mathlib.Core.Path.{refl, sym, ◌∙◌, subst}
use native.Mathlib.Omega.{arith}
use Rattle.listfile.specs.model.Table.{FieldPassed}
use Rattle.walk.proofs.SumLaws.{sums_more, turn_sums_to, words_few}
use Rattle.walk.proofs.TableFields.{field_past, field_here}
use Rattle.walk.proofs.WalkLaws.{ahead_start, ahead_none, ahead_past, ahead_halt, ahead_turn, walk_lost, walk_halted}
use Rattle.walk.proofs.visits.walk.Goals as goal

pub loop-visits-init : goal.loop-visits-init
loop-visits-init c = (rw c.first_spot-here.ensures (ahead_start _ _ _), record { worst = omega arith; incoming = omega arith; outgoing = omega arith; even = record { incoming = refl; outgoing = refl } })

pub returns-then-sizes-k : goal.returns-then-sizes-k
returns-then-sizes-k c =
    walk_lost _ _
    (c.loop-visits.invariant.0 ∙ ahead_past _ _ _ _ _ (omega arith) (field_past _ _ _ c.if-sizes-k.true))

pub bounds-table-k : goal.bounds-table-k
bounds-table-k c = omega (arith, c.requires.0)

pub turn_at-requires : goal.turn_at-requires
turn_at-requires c =
    let right = c.requires.1.1.1 in (
      c.requires.1.1.0,
      (
        subst (FieldPassed _) (sym (right.entry _ c.if-sizes-k.false)) (right.passed _ c.if-sizes-k.false),
        (omega arith, sums_more (omega arith) c.loop-visits.invariant.1),
      ),
    )

pub returns-in_default : goal.returns-in_default
returns-in_default c =
    let field = field_here _ _ _ _ _ _ c.if-sizes-k.false c.requires.1.1.1 refl refl in
    let stopped = sym c.turn_at.ensures ∙ c.in_default.is in
    walk_halted _ _ _ (c.loop-visits.invariant.0 ∙ ahead_halt _ _ _ _ _ field _ (omega arith) stopped)
    (sums_more (omega arith) c.loop-visits.invariant.1)

pub loop-visits-preserved : goal.loop-visits-preserved
loop-visits-preserved c =
    let i = c.loop-visits.invariant in
    let field = field_here _ _ _ _ _ _ c.if-sizes-k.false c.requires.1.1.1 refl refl in
    let turn = sym c.turn_at.ensures ∙ c.in-Some.is in
    let below = turn_sums_to _ _ _ _ _ _ _ c.requires.1.1.0 (words_few _ _ _ refl) i.1 turn in (
      i.0 ∙ ahead_turn _ _ _ _ _ field _ _ _ _ c.loop-visits-test.true turn,
      sums_more (omega arith) below,
    )

pub returns : goal.returns
returns c = walk_lost _ _ (c.loop-visits.invariant.0 ∙ ahead_none _ _ _ _ _ (omega arith))
