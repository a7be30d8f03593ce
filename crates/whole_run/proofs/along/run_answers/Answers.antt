-- `run_answers` goes on over answers and along the walk: the invariant is that the run stands before a word. Each turn takes the answers of an
-- instruction, of which there is one at least.
use mathlib.Core.Path.{◌∙◌}
use native.Mathlib.Omega.{arith}
use Rattle.step.proofs.PlanLaws.{askable}
use Rattle.whole_run.proofs.RunTurn.{grounds_table, waiting, word_start, word_spot, word_position, word_again, word_roomy, words_passed, word_stop, next_taken, word_next, standing_halt, operations_few}
use Rattle.whole_run.proofs.along.run_answers.Goals as goal

pub offset_bounds-table-spot : goal.offset_bounds-table-spot
offset_bounds-table-spot c =
    let p = c.requires in omega (arith, (askable _ _ _ _ _ _ p.0.prepared _ p.1.0.1.0 p.1.0.1.1).0, p.0.prepared.entries)

pub bounds-table-spot : goal.bounds-table-spot
bounds-table-spot c =
    let p = c.requires in (askable _ _ _ _ _ _ p.0.prepared _ p.1.0.1.0 p.1.0.1.1).0

pub first_at-longword-requires : goal.first_at-longword-requires
first_at-longword-requires c =
    let p = c.requires in let w = waiting p.0 p.1.0.1.0 p.1.0.1.1 c.from.ensures in
    (w.passed, w.tag)

pub loop-here-init : goal.loop-here-init
loop-here-init c =
    let p = c.requires in
    word_start p.0 p.1.1 p.1.0.0 p.1.0.1.0 p.1.0.1.1 (waiting p.0 p.1.0.1.0 p.1.0.1.1 c.from.ensures) c.first_at-longword.ensures c.stay_of-here.ensures

pub visit-here-requires : goal.visit-here-requires
visit-here-requires c =
    let p = c.requires in let word = c.loop-here.invariant in
    (p.0.prepared.planned.small, (word.command.passes, word_roomy p.0 p.1.1 word))

pub record_of-run-requires : goal.record_of-run-requires
record_of-run-requires c =
    let p = c.requires in
    let passed = (words_passed p.0 p.1.1 c.loop-here.invariant c.visit-here.ensures).0 in
    let y = word_again c.loop-here.invariant passed c.if-here-ne0.true in (
      passed.onward,
      (passed.formed.within, (operations_few _ _ p.0 p.1.0.1.0 p.1.0.1.1, omega (arith, word_position p.0 p.1.1 y))),
    )

pub shape_of-incoming-then-here-ne0 : goal.shape_of-incoming-then-here-ne0
shape_of-incoming-then-here-ne0 c =
    let p = c.requires in (words_passed p.0 p.1.1 c.loop-here.invariant c.visit-here.ensures).0.kept

pub returns-then-here-ne0 : goal.returns-then-here-ne0
returns-then-here-ne0 c =
    let p = c.requires in
    let passed = (words_passed p.0 p.1.1 c.loop-here.invariant c.visit-here.ensures).0 in
    (rw c.record_of-run.ensures (word_stop p.0 p.1.1 (word_again c.loop-here.invariant passed c.if-here-ne0.true)), passed.onward)

pub spot_after-requires : goal.spot_after-requires
spot_after-requires c = let p = c.requires in word_spot p.0 p.1.1 c.loop-here.invariant

pub reach-next-requires : goal.reach-next-requires
reach-next-requires c =
    let p = c.requires in
    let passed = (words_passed p.0 p.1.1 c.loop-here.invariant c.visit-here.ensures).0 in
    (grounds_table p.0, rw c.spot_after.ensures (passed.behind c.if-here-ne0.false))

pub record_of-last-requires : goal.record_of-last-requires
record_of-last-requires c =
    let p = c.requires in
    let passed = (words_passed p.0 p.1.1 c.loop-here.invariant c.visit-here.ensures).0 in
    (passed.onward, (passed.formed.within, (operations_few _ _ p.0 p.1.0.1.0 p.1.0.1.1, omega arith)))

pub shape_of-incoming-in_default : goal.shape_of-incoming-in_default
shape_of-incoming-in_default c =
    let p = c.requires in c.reach-next.auto.incoming ∙ (words_passed p.0 p.1.1 c.loop-here.invariant c.visit-here.ensures).0.kept

pub returns-in_default : goal.returns-in_default
returns-in_default c =
    let p = c.requires in
    let passed = (words_passed p.0 p.1.1 c.loop-here.invariant c.visit-here.ensures).0 in
    let reached = rw c.spot_after.ensures at c.reach-next.ensures in (
      rw (c.ended_at-run.ensures, c.record_of-last.ensures) (standing_halt p.0 p.1.1 passed c.if-here-ne0.false reached c.in_default.is),
      passed.onward,
    )

pub arrive-here-requires : goal.arrive-here-requires
arrive-here-requires c =
    let reached = rw c.spot_after.ensures at c.reach-next.ensures in (reached.command _ c.in-Some.is).passes

pub loop-here-smaller : goal.loop-here-smaller
loop-here-smaller c =
    let p = c.requires in
    let word = c.loop-here.invariant in
    let passed = words_passed p.0 p.1.1 word c.visit-here.ensures in
    let reached = rw c.spot_after.ensures at c.reach-next.ensures in
    omega (
      arith,
      passed.1,
      word.some,
      c.if-here-ne0.false,
      passed.0.formed.within,
      next_taken p.0 p.1.1 passed.0 c.if-here-ne0.false reached c.in-Some.is c.arrive-here.ensures,
    )

pub loop-here-preserved : goal.loop-here-preserved
loop-here-preserved c =
    let p = c.requires in
    let passed = (words_passed p.0 p.1.1 c.loop-here.invariant c.visit-here.ensures).0 in
    let reached = rw c.spot_after.ensures at c.reach-next.ensures in
    word_next p.0 p.1.1 passed c.if-here-ne0.false reached c.in-Some.is c.arrive-here.ensures c.reach-next.auto.incoming
