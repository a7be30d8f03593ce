-- `note_behind` is `note_behind`: each arm is a clause of it.
use native.Mathlib.Omega.{arith}
use Rattle.answers.proofs.note_behind.Goals as goal

pub overflow_sub-result : goal.overflow_sub-result
overflow_sub-result c = omega (arith, c.width_of-width.ensures.0, rw c.in-Incoming.is at c.requires)

pub overflow_sub-result-in-Outgoing : goal.overflow_sub-result-in-Outgoing
overflow_sub-result-in-Outgoing c = omega (arith, c.width_of-width.ensures.0, rw c.in-Outgoing.is at c.requires)

pub returns-in-Incoming : goal.returns-in-Incoming
returns-in-Incoming c = rw (c.width_of-width.ensures.0, c.in-Incoming.is)

pub returns-in-Outgoing : goal.returns-in-Outgoing
returns-in-Outgoing c = rw (c.width_of-width.ensures.0, c.in-Outgoing.is)
