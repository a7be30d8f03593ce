-- The place of the instruction visited is that of a field that passed, and the sums stay small.
use Rattle.std.proofs.Common.{arith, refl, sym, ◌∙◌, subst}
use Rattle.listfile.specs.model.Table.{FieldPassed}
use Rattle.walk.proofs.SumLaws.{sums_more, turn_sums_to, words_few}
use Rattle.explain.proofs.visits.print_walk.Goals as goal

pub turn_at-turn-requires : goal.turn_at-turn-requires
turn_at-turn-requires g c =
    let right = c.requires.right in
    let found = c.in-Some.ensures.lookup.3 in
    let passed = subst (FieldPassed _) (sym (found.1 0 ∙ right.entry _ found.0)) (right.passed _ found.0) in
    (c.requires.small, (passed, (omega arith, sums_more (omega arith) c.loop-visit.invariant)))

pub loop-visit-preserved : goal.loop-visit-preserved
loop-visit-preserved g c =
    sums_more (omega arith) (turn_sums_to _ _ _ _ _ _ _ c.requires.small (words_few _ _ _ refl) c.loop-visit.invariant (sym c.in-Some-turn.ensures))
