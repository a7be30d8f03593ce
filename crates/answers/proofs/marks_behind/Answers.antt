-- `marks_behind` is `marks_behind`: each arm is a clause of it.
use Rattle.answers.proofs.marks_behind.Goals as goal

pub returns-in-Incoming : goal.returns-in-Incoming
returns-in-Incoming c = rw (c.mark_behind.ensures, c.in-Incoming.is)

pub returns-in-Outgoing : goal.returns-in-Outgoing
returns-in-Outgoing c = rw (c.mark_behind-in-Outgoing.ensures, c.in-Outgoing.is)
