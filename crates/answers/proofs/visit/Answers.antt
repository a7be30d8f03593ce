-- `visit` takes a last word by itself, and passes all others in the loop.
use mathlib.Core.Path.{refl}
use native.Mathlib.Omega.{arith}
use Rattle.answers.specs.model.Visit.{none}
use Rattle.answers.proofs.VisitRoom.{roomy_as, words_as, passed_as, words_with, words_turn}
use Rattle.answers.proofs.visit.Goals as goal

pub last_word-marks-requires : goal.last_word-marks-requires
last_word-marks-requires c =
    let e = c.rules_in-rules.ensures in (roomy_as e c.requires.1.1, words_as e (c.is_last.ensures c.if-is_last.true).1)

pub behind_words-requires : goal.behind_words-requires
behind_words-requires c =
    let e = c.rules_in-rules.ensures in
    words_with _ _ _ _ _ (roomy_as e c.requires.1.1) _ (words_as e (c.is_last.ensures c.if-is_last.true).1)
    (omega (arith, c.requires.1.1.taken)) c.last_word-marks.ensures.0

pub returns-then-is_last : goal.returns-then-is_last
returns-then-is_last c =
    let e = c.rules_in-rules.ensures in
    passed_as e
    (words_turn _ _ _ _ _ _ _ _ none (roomy_as e c.requires.1.1) refl 1 (words_as e (c.is_last.ensures c.if-is_last.true).1) _
    c.behind_words.ensures _ c.last_word-marks.ensures.1).0

pub visit_on-requires : goal.visit_on-requires
visit_on-requires c = (c.requires.0, roomy_as c.rules_in.ensures c.requires.1.1)

pub returns : goal.returns
returns c = passed_as c.rules_in.ensures c.visit_on.ensures
