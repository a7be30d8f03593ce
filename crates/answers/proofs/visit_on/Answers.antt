-- `visit_on` passes words and waits: the invariant is a derivation of what was passed, with the room that is left. Each turn takes a
-- reply at least.
use mathlib.Core.Path.{refl, sym, ◌∙◌}
use native.Mathlib.Omega.{arith}
use Rattle.answers.specs.model.Visit.{none}
use Rattle.answers.proofs.VisitRoom.{one_word, words_turn, wait_turn, words_taken, wait_taken}
use Rattle.answers.proofs.visit_on.Goals as goal

pub loop-here-init : goal.loop-here-init
loop-here-init c = (none, (c.requires.1, refl))

pub shape_of-incoming-then-answers-here : goal.shape_of-incoming-then-answers-here
shape_of-incoming-then-answers-here c = c.loop-here.invariant.1.1

pub returns-then-answers-here : goal.returns-then-answers-here
returns-then-answers-here c = c.loop-here.invariant.0

pub is_word_at-requires : goal.is_word_at-requires
is_word_at-requires c = omega (arith, c.if-answers-here.false, c.loop-here.invariant.1.0.within)

pub words_ahead-ahead-requires : goal.words_ahead-ahead-requires
words_ahead-ahead-requires c = c.loop-here.invariant.1.0.scan (omega (arith, c.loop-here-test.true))

pub overflow_sub-answers : goal.overflow_sub-answers
overflow_sub-answers c = omega (arith, c.if-answers-here.false)

pub shape_of-incoming-then-most-eq0 : goal.shape_of-incoming-then-most-eq0
shape_of-incoming-then-most-eq0 c = c.loop-here.invariant.1.1

pub returns-then-most-eq0 : goal.returns-then-most-eq0
returns-then-most-eq0 c = c.loop-here.invariant.0

pub take_words-here-requires : goal.take_words-here-requires
take_words-here-requires c =
    let i = c.loop-here.invariant in (
      i.1.0,
      one_word _ _ _ _ (omega arith) (omega (arith, c.if-answers-here.false)) _ c.is_word_at.ensures c.if-is_word_at.true,
      (omega arith, (omega arith, omega arith)),
    )

pub loop-here-smaller-then-is_word_at : goal.loop-here-smaller-then-is_word_at
loop-here-smaller-then-is_word_at c =
    let t = c.take_words-here.ensures in omega (arith, t.words.some, t.words.answered, (words_taken _ _ _ _ t.behind).0)

pub loop-here-preserved-then-is_word_at : goal.loop-here-preserved-then-is_word_at
loop-here-preserved-then-is_word_at c =
    let i = c.loop-here.invariant in
    let t = c.take_words-here.ensures in
    words_turn _ _ _ _ _ _ _ _ i.0 i.1.0 i.1.1 _ t.words _ t.behind _ t.bytes

pub is_wait-requires : goal.is_wait-requires
is_wait-requires c =
    let m = c.loop-here.invariant.1.0 in (
      omega (arith, c.loop-here-test.true),
      (omega (arith, c.if-answers-here.false), (m.within, (m.tries, sym c.is_word_at.ensures ∙ c.if-is_word_at.false))),
    )

pub shape_of-incoming-then-not-is_wait : goal.shape_of-incoming-then-not-is_wait
shape_of-incoming-then-not-is_wait c = c.loop-here.invariant.1.1

pub returns-then-not-is_wait : goal.returns-then-not-is_wait
returns-then-not-is_wait c = c.loop-here.invariant.0

pub after_wait-here-requires : goal.after_wait-here-requires
after_wait-here-requires c =
    let m = c.loop-here.invariant.1.0 in (m.tries, (omega (arith, m.taken, c.well_formed.1.1.1.1.0.1), m.position))

pub loop-here-smaller : goal.loop-here-smaller
loop-here-smaller c = omega (arith, c.if-answers-here.false, (wait_taken _ _ _ c.after_wait-here.ensures).0)

pub loop-here-preserved : goal.loop-here-preserved
loop-here-preserved c =
    let i = c.loop-here.invariant in
    wait_turn _ _ _ _ _ _ _ _ i.0 i.1.0 i.1.1 c.requires.0
    (c.is_wait.ensures (c.if-not-is_wait.false)) _ c.after_wait-here.ensures

pub shape_of-incoming : goal.shape_of-incoming
shape_of-incoming c = c.loop-here.invariant.1.1

pub returns : goal.returns
returns c = c.loop-here.invariant.0
