-- `read_narrow` counts words and stores them. The loop's invariant: the first k answers are words, and they lie in the buffer.
use mathlib.Core.Path.{◌≡◌}
use mathlib.Core.Bool.{false}
use lib.ListN.{length}
use Rattle.row.specs.model.Words.{WordsAt, words_stored}
use Rattle.row.proofs.words.read_narrow.Given as goal

abbrev pub invariant-loop-k : goal.invariant-loop-k
invariant-loop-k l = WordsAt l.mask l.row l.from l.k
    × (l.incoming ≡ words_stored false l.row l.from l.mark l.k l.initial.incoming) × (length l.incoming ≡ length l.initial.incoming)
