-- `find` is `find_in` over the whole walk: the invariant is that the search from here finds what it finds from the start, and that the sums
-- and those ahead come to the walk's.
use mathlib.Core.Path.{refl, sym, ◌∙◌}
use native.Mathlib.Omega.{arith}
use Rattle.walk.proofs.SumLaws.{words_few}
use Rattle.step.proofs.Onward.{within}
use Rattle.step.proofs.Search.{finding_start, finding_below, find_missing, find_here, find_on}
use Rattle.step.proofs.place.find.Goals as goal

pub loop-turn-init : goal.loop-turn-init
loop-turn-init c = rw c.first_spot-at.ensures (finding_start _ _ _ c.requires.1.walk)

pub offset_bounds-table-at : goal.offset_bounds-table-at
offset_bounds-table-at c = omega (arith, within _ _ _ c.loop-turn.invariant.on, c.requires.1.few)

pub bounds-table-at : goal.bounds-table-at
bounds-table-at c =
    omega (
      arith,
      within _ _ _ c.loop-turn.invariant.on,
      c.requires.1.few,
      c.requires.0,
    )

pub turn_of-requires : goal.turn_of-requires
turn_of-requires c = (
  c.requires.1.small,
  (
    words_few _ _ _ c.instruction_at-i.ensures,
    (
      omega (
        arith,
        within _ _ _ c.loop-turn.invariant.on,
        c.requires.1.few,
      ),
      finding_below _ _ _ _ _ _ _ c.loop-turn.invariant c.requires.1.below,
    ),
  ),
)

pub returns-in_err-turn : goal.returns-in_err-turn
returns-in_err-turn c =
    c.from_residual.ensures ∙ find_missing _ _ _ _ _ _ c.requires.1.right refl c.instruction_at-i.ensures _ _ _ _
    c.loop-turn.invariant (sym c.turn_of.ensures ∙ c.in_err-turn.was)

pub returns-then-eq : goal.returns-then-eq
returns-then-eq c =
    c.found_at.ensures ∙ find_here _ _ _ _ _ _ c.requires.1.right refl c.instruction_at-i.ensures _ _ _ _
    c.loop-turn.invariant _ (sym c.turn_of.ensures ∙ c.in_ok-turn.was) (sym c.eq.ensures ∙ c.if-eq.true)

pub loop-turn-smaller : goal.loop-turn-smaller
loop-turn-smaller c =
    (find_on _ _ _ _ _ _ c.requires.1.right refl c.instruction_at-i.ensures _ _ _ _ c.loop-turn.invariant _ (sym
    c.turn_of.ensures ∙ c.in_ok-turn.was) (sym c.eq.ensures ∙ c.if-eq.false)).1

pub loop-turn-preserved : goal.loop-turn-preserved
loop-turn-preserved c =
    (find_on _ _ _ _ _ _ c.requires.1.right refl c.instruction_at-i.ensures _ _ _ _ c.loop-turn.invariant _ (sym
    c.turn_of.ensures ∙ c.in_ok-turn.was) (sym c.eq.ensures ∙ c.if-eq.false)).0
