-- `take_wide` stores the longword of an answer that is a word, and nothing of another.
use mathlib.Core.Path.{refl, sym, ◌∙◌}
use Rattle.row.proofs.words.take_wide.Goals as goal

pub returns-then-not-is_word_at : goal.returns-then-not-is_word_at
returns-then-not-is_word_at c = (sym (c.if-not-is_word_at.true) ∙ c.is_word_at.ensures, refl)

pub returns : goal.returns
returns c = (
  sym (c.if-not-is_word_at.false) ∙ c.is_word_at.ensures,
  c.put_long.ensures ∙ rw c.wide_at.ensures,
)
