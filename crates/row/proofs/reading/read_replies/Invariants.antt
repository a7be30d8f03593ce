-- `read_replies` reads replies one by one. The loop's invariant: those passed are formed, and of them those before `first` are answers.
use Prim.Native.Nat.{◌≤◌}
use Rattle.row.specs.model.Words.{FormedOver, AnswersOver}
use Rattle.row.proofs.reading.read_replies.Given as goal

abbrev pub invariant-loop-j : goal.invariant-loop-j
invariant-loop-j l = (l.first ≤ l.answers) × FormedOver l.row l.from l.j × AnswersOver l.row l.from l.j l.first
