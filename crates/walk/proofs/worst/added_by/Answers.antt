-- `added_by` is `added_by`, by the direction.
use Rattle.walk.proofs.worst.added_by.Goals as goal

pub returns-in-Incoming : goal.returns-in-Incoming
returns-in-Incoming c = simp (c.in-Incoming.is, c.mark_after_words.ensures)

pub returns-in-Outgoing : goal.returns-in-Outgoing
returns-in-Outgoing c = simp (c.in-Outgoing.is, c.mark_after_words-in-Outgoing.ensures)

pub returns-in-Neither : goal.returns-in-Neither
returns-in-Neither c = simp c.in-Neither.is
