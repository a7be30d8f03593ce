-- `is_wait` says so only where each of the tests that it makes holds.
use mathlib.Core.Bool.{false≢true}
use mathlib.Core.Path.{sym, ◌∙◌}
use Rattle.answers.proofs.is_wait.Goals as goal

pub returns-then-not-is_word_at : goal.returns-then-not-is_word_at
returns-then-not-is_word_at c = λ e. absurd (false≢true e)

pub returns : goal.returns
returns c = λ e. let p = c.requires in record {
  some = p.0;
  answered = p.1.0;
  no_word = p.1.1.1.1;
  judged = rw (← c.wait_flags.ensures) (sym c.is_word_at.ensures ∙ c.if-not-is_word_at.false);
  tried = sym c.can_wait.ensures ∙ e;
}
