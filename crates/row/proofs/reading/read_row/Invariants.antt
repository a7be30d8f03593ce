-- `read_row` reads a row stretch by stretch. The loop's invariant: the replies passed are formed, and of them those before `answers` are answers. A row
-- that is no multiple of 8 bytes is not formed.
use Prim.Native.Nat.{◌-◌, ◌/◌, ◌≤◌}
use lib.ListN.{length}
use Rattle.row.specs.model.Words.{FormedOver, AnswersOver}
use Rattle.row.proofs.reading.read_row.Given as goal

abbrev pub invariant-loop-k : goal.invariant-loop-k
invariant-loop-k l =
    (l.k ≤ length l.row / 8) × (l.answers ≤ length l.row / 8) × FormedOver l.row 0 l.k × AnswersOver l.row 0 l.k l.answers

abbrev pub decreases-loop-k : goal.decreases-loop-k
decreases-loop-k l = length l.row / 8 - l.k
