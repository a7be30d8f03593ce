-- What code answers, as the answers of the calls (document 01, "Who can cause which refusal").
use Rattle.std.specs.Prelude.{false, Option, None, Result, Ok, Err}
use Rattle.base.specs.Refusals.{not_refused, told}
use Rattle.base.specs.declared.refusals.Refused.{Refused}
use Rattle.demands.specs.declared.Demand.{Demand}
use Rattle.demands.specs.declared.Queued as code
use Rattle.demands.specs.declared.Taken.{Taken}
use Rattle.demands.specs.Demands.{Queued}

-- not refused
abbrev pub accepted : code.Queued → Queued
accepted r = record { refusal = not_refused; waiting = r.waiting; overflow = r.overflow }

-- "A refusal yields number, place and zeros"
abbrev pub answer_of : Result code.Queued Refused → Queued
answer_of (Ok r) = accepted r
answer_of (Err r) = record { refusal = told r; waiting = 0; overflow = false }

abbrev pub taken_answer_of : Result Taken Refused → Queued
taken_answer_of (Ok t) = accepted t.queued
taken_answer_of (Err r) = record { refusal = told r; waiting = 0; overflow = false }

abbrev pub next_of : Result Taken Refused → Option Demand
next_of (Ok t) = t.next
next_of (Err r) = None
