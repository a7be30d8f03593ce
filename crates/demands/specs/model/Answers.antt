-- What code reads of a queue. Nothing here is a rule of document 02.
use Rattle.std.specs.Prelude.{ℕ, not, List, eqb}
use Rattle.demands.specs.declared.Queued as code
use Rattle.demands.specs.Demands.{waiting_number, mark_in}

-- how many wait, and the mark
abbrev pub queued_in : List ℕ → code.Queued
queued_in q = record { waiting = waiting_number q; overflow = not (eqb (mark_in q) 0) }
