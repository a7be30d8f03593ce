-- `mark_behind` is `mark_after_words`.
use Rattle.answers.proofs.mark_behind.Goals as goal

pub returns : goal.returns
returns c = c.mark_after_words.ensures
