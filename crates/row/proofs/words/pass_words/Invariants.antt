-- `pass_words` counts words. The loop's invariant: the first k answers are words. Where it stops early, the next is none, so that a first word is
-- counted.
use Rattle.row.specs.model.Words.{WordsAt}
use Rattle.row.proofs.words.pass_words.Given as goal

abbrev pub invariant-loop-k : goal.invariant-loop-k
invariant-loop-k l = WordsAt l.mask l.row l.from l.k
