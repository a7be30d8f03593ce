-- The calls by numbers, as a host in C is given them (admission and the whole run by document 01; start, step and several replies are ours beside
-- them). A record is its thirteen numbers in document 01's order. Admission's numbers are `numbers_of` of the crate walk.
use Rattle.std.specs.Prelude.{ℕ, Bool, not, ◌&&◌, Option, Some, None, List, [], ◌∷◌, ◌++◌, leb, eqb, length, get_or, if◌then◌else◌}
use Rattle.base.specs.Refusals.{refusal}
use Rattle.base.specs.Refusals.{Refusal}
use Rattle.walk.specs.Admission.{Prepared, unfit, ready, prepare}
use Rattle.reply.specs.Effect.{State, state_of}
use Rattle.reply.specs.declared.records.Record.{Record}
use Rattle.calls.specs.Calls.{number_of, record_numbers, no_operation, Called, RunThrough, Stepping, start_of, step_of, steps_of}
use Rattle.calls.specs.declared.operations.Operation.{Operation}
use Rattle.demands.specs.declared.Demand.{Demand}
use Rattle.demands.specs.Demands.{Queued}

-- Answers ------------------------------------------------------------------------------------------------------------------

-- decimal scalers: number, place
abbrev pub refusal_numbers : Refusal → List ℕ
refusal_numbers r = r.number ∷ r.place ∷ []

-- demands: number, place, how many wait, the overflow mark; taking: then 1 and the demand, or 0 for nothing
abbrev pub queued_numbers : Queued → List ℕ
queued_numbers r = r.refusal.number ∷ r.refusal.place ∷ r.waiting ∷ number_of r.overflow ∷ []

abbrev pub next_numbers : Option Demand → List ℕ
next_numbers None = 0 ∷ 0 ∷ 0 ∷ []
next_numbers (Some d) = 1 ∷ d.crate_number ∷ d.sgl ∷ []

abbrev pub taken_numbers : Queued → Option Demand → List ℕ
taken_numbers r next = queued_numbers r ++ next_numbers next

-- "A host in C calls admission and the whole run": of it number, place, the replies taken, then the record
abbrev pub ran_numbers : Refusal → ℕ → Record → List ℕ
ran_numbers r taken run = r.number ∷ r.place ∷ taken ∷ record_numbers run

abbrev pub run_numbers : RunThrough → List ℕ
run_numbers x = ran_numbers x.refusal x.taken x.state.run

-- "the operation wanted next: crate, N, A, F and data"; "a sixth number, 1 if enhanced, else 0" (E1)
abbrev pub wanted_numbers : Operation → List ℕ
wanted_numbers o = o.crate_number ∷ o.station ∷ o.subaddress ∷ o.function ∷ o.word ∷ number_of o.enhanced ∷ []

-- start and step: number, place, the operation wanted
abbrev pub call_numbers : Refusal → Operation → List ℕ
call_numbers r o = r.number ∷ r.place ∷ wanted_numbers o

-- several replies: number, place, the replies taken, the operation wanted
abbrev pub steps_numbers : Refusal → ℕ → Operation → List ℕ
steps_numbers r taken o = r.number ∷ r.place ∷ taken ∷ wanted_numbers o

-- A record from its numbers ------------------------------------------------------------------------------------------------

-- a first number other than 0 is that of a record that has ended
abbrev pub ended_in : List ℕ → Bool
ended_in n = not (eqb (get_or n 0 0) 0)

-- N, A and the note's buffer have a byte, status has 32 bits, the others have 64
abbrev pub is_narrow : List ℕ → Bool
is_narrow n = ((leb (get_or n 4 0) 255 && leb (get_or n 5 0) 255) && leb (get_or n 9 0) 4294967295) && leb (get_or n 10 0) 255

abbrev pub record_with : List ℕ → Record
record_with n = record {
  ended = ended_in n;
  spot = record { instruction = get_or n 1 0 };
  left = get_or n 2 0;
  tries = get_or n 3 0;
  position = record { station = get_or n 4 0; subaddress = get_or n 5 0 };
  marks = record { incoming = get_or n 6 0; outgoing = get_or n 7 0 };
  operations = get_or n 8 0;
  status = get_or n 9 0;
  note = record { buffer = get_or n 10 0; offset = get_or n 11 0; size = get_or n 12 0 };
}

-- none where a number is too wide for its part
abbrev pub record_in : List ℕ → Option Record
record_in n = if is_narrow n then Some (record_with n) else None

-- What a call leaves -------------------------------------------------------------------------------------------------------

-- its answer, the record's numbers, and both buffers
pub record Leaving : Type 0 where
  pub answer : List ℕ
  pub run : List ℕ
  pub incoming : List ℕ
  pub outgoing : List ℕ

abbrev pub started : Called → Leaving
started c = record {
  answer = call_numbers c.refusal c.wanted;
  run = record_numbers c.state.run;
  incoming = c.state.incoming;
  outgoing = c.state.outgoing;
}

abbrev pub start_by_numbers : List ℕ → List ℕ → List ℕ → Leaving
start_by_numbers list incoming outgoing = started (start_of list incoming outgoing)

-- a call with a record given by its numbers; "Record and buffers keep their contents": refused, it leaves the numbers as they are
abbrev pub left_by : List ℕ → List ℕ → Refusal → State → Leaving
left_by given answer r s = record {
  answer = answer;
  run = if eqb r.number 0 then record_numbers s.run else given;
  incoming = s.incoming;
  outgoing = s.outgoing;
}

abbrev pub refused_by : List ℕ → List ℕ → List ℕ → List ℕ → Leaving
refused_by given answer incoming outgoing = record { answer = answer; run = given; incoming = incoming; outgoing = outgoing }

-- the refusal of numbers that are no record's, which don't fit: "24, 23"
abbrev pub no_record : Prepared → Bool → Refusal
no_record (unfit r) isEnded = r
no_record (ready p) isEnded = if isEnded then refusal 24 else refusal 23

-- A step -------------------------------------------------------------------------------------------------------------------

abbrev pub stepped : List ℕ → Called → Leaving
stepped given c = left_by given (call_numbers c.refusal c.wanted) c.refusal c.state

abbrev pub step_with : Option Record → List ℕ → List ℕ → List ℕ → List ℕ → List ℕ → Leaving
step_with None list given incoming outgoing reply =
    refused_by given (call_numbers (no_record (prepare list (length incoming) (length outgoing)) (ended_in given)) no_operation) incoming outgoing
step_with (Some r) list given incoming outgoing reply = stepped given (step_of list (state_of r incoming outgoing) reply)

unfoldable pub step_by_numbers : List ℕ → List ℕ → List ℕ → List ℕ → List ℕ → Leaving
step_by_numbers list given incoming outgoing reply = step_with (record_in given) list given incoming outgoing reply

-- Several replies ----------------------------------------------------------------------------------------------------------

abbrev pub several_stepped : List ℕ → Stepping → Leaving
several_stepped given x = left_by given (steps_numbers x.refusal x.taken x.wanted) x.refusal x.state

abbrev pub steps_with : Option Record → List ℕ → List ℕ → List ℕ → List ℕ → List ℕ → Leaving
steps_with None list given incoming outgoing row =
    refused_by given (steps_numbers (no_record (prepare list (length incoming) (length outgoing)) (ended_in given)) 0 no_operation) incoming outgoing
steps_with (Some r) list given incoming outgoing row = several_stepped given (steps_of list (state_of r incoming outgoing) row)

unfoldable pub steps_by_numbers : List ℕ → List ℕ → List ℕ → List ℕ → List ℕ → Leaving
steps_by_numbers list given incoming outgoing row = steps_with (record_in given) list given incoming outgoing row
