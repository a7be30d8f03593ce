-- `is_last` says that one word is left and that the answer here is a word: it is one by the mask of the Q-mode's number, which asks as much as the
-- instruction's, and more of a list sequencer.
use mathlib.Core.Path.{refl, sym, ap₂, ◌∙◌}
use mathlib.Core.Bool.{true, false≢true}
use native.Mathlib.Omega.{arith}
use Rattle.qmodes.specs.model.Answers.{word_flags}
use Rattle.row.specs.model.Words.{flags_at}
use Rattle.answers.specs.model.Visit.{rules_in}
use Rattle.answers.proofs.VisitRoom.{word_numbered, ahead_last, one_word}
use Rattle.answers.proofs.is_last.Goals as goal

pub returns-then-here-ne1 : goal.returns-then-here-ne1
returns-then-here-ne1 c = λ e. absurd (false≢true e)

pub returns-then-answers-here : goal.returns-then-answers-here
returns-then-answers-here c = λ e. absurd (false≢true e)

pub returns : goal.returns
returns c = λ t.
    let one = c.if-here-ne1.false in
    let mask = c.word_flags-mask.ensures ∙ ap₂ word_flags c.numbered_qmode.ensures c.has_ad.ensures in
    let word = word_numbered c.args.first (flags_at c.args.row.now c.args.here.taken) _ mask (sym c.is_word_at.ensures ∙ t) in (
      one,
      one_word _ _ _ _ (ahead_last (rules_in c.args.first).q c.args.here.position c.args.here.left one)
          (omega (arith, c.if-answers-here.false)) true (sym word) refl,
    )
