-- `read_wide` counts words and stores them, two by two, then the last of an odd number. The loop's invariant: the first k answers are words, and they
-- lie in the buffer; no word has a pad, since the first has none.
use Prim.Native.Nat.{◌-◌, ◌≤◌}
use mathlib.Core.Path.{◌≡◌}
use lib.ListN.{length}
use Rattle.row.proofs.WordLaws.{WideRead}
use Rattle.row.proofs.words.read_wide.Given as goal

abbrev pub invariant-loop-k : goal.invariant-loop-k
invariant-loop-k l = (l.k ≤ l.most) × WideRead l.mask l.row l.from l.mark l.initial.incoming l.k l.incoming
    × (length l.incoming ≡ length l.initial.incoming)

abbrev pub decreases-loop-k : goal.decreases-loop-k
decreases-loop-k l = l.most - l.k
