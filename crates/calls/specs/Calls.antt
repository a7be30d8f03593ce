-- The calls: start, step, the whole run, several replies, the last moved word (document 01, "The calls" and "Who can cause which refusal").
use Rattle.std.specs.Prelude.{ℕ, ◌+◌, ◌≡◌, Bool, true, false, List, [], ◌∷◌, leb, eqb, length, take, drop, if◌then◌else◌, Some, None, Result, Ok, Err}
use Rattle.std.specs.Prelude as std
use Rattle.std.proofs.Math.Option.{Option, none, some}
use Rattle.base.specs.Checks.{all_of}
use Rattle.base.specs.Refusals.{not_refused, refusal, refusal_of}
use Rattle.camac.specs.Words.{address_of, direction_of, is_enhanced}
use Rattle.camac.specs.declared.words.Command.{Command}
use Rattle.camac.specs.declared.words.Transfer.{Transfer}
use Rattle.camac.specs.declared.words.Transfer.TheVariants.{Single, Block, Enhanced, Inline}
use Rattle.packing.specs.Packing.{word_at}
use Rattle.base.specs.Refusals.{Refusal}
use Rattle.base.specs.declared.refusals.Refused.{Refused}
use Rattle.listfile.specs.declared.field.Instruction.TheVariants.{Camac, Jump, Literal, Halt}
use Rattle.walk.specs.Walk.{Visit, on_from}
use Rattle.walk.specs.Admission.{Plan, Prepared, unfit, ready, prepare}
use Rattle.reply.specs.Replies.{reply_of, replies_in, all_formed}
use Rattle.reply.specs.Effect.{State, run_on, take_reply, state_of, zero_record}
use Rattle.calls.specs.Fit.{fits}
use Rattle.reply.specs.declared.replies.Reply.{Reply}
use Rattle.reply.specs.declared.records.Note.{Note}
use Rattle.reply.specs.declared.records.Record.{Record}
use Rattle.calls.specs.declared.operations.Operation.{Operation}
use Rattle.calls.specs.declared.Yield.{Yield}
use Rattle.calls.specs.declared.Ran.{Ran}
use Rattle.calls.specs.declared.Stepped.{Stepped}
use Rattle.camac.specs.declared.words.Direction.{Direction}
use Rattle.camac.specs.declared.words.Direction.TheVariants.{Incoming, Outgoing, Neither}

-- Refusals and records ---------------------------------------------------------------------------------------------------

-- "a refused start or whole run gives a record marked ended, all else zero"
abbrev pub refused_record : Record
refused_record = zero_record true

-- the number of a yes or no
abbrev pub number_of : Bool → ℕ
number_of b = if b then 1 else 0

-- document 01's numbers of a record, in its order: "ended, instruction, words left, tries made, current N and A, both marks, operations,
-- status, note of the last move"
abbrev pub record_numbers : Record → List ℕ
record_numbers r =
    number_of r.ended ∷ r.spot.instruction ∷ r.left ∷ r.tries ∷ r.position.station ∷ r.position.subaddress
    ∷ r.marks.incoming ∷ r.marks.outgoing ∷ r.operations ∷ r.status ∷ r.note.buffer ∷ r.note.offset ∷ r.note.size ∷ []

-- The operation wanted next ----------------------------------------------------------------------------------------------

-- "after the end or a refusal all five are zero", and E1's sixth
abbrev pub no_operation : Operation
no_operation = record { crate_number = 0; station = 0; subaddress = 0; function = 0; word = 0; enhanced = false }

-- "data, which is the outgoing word that a write takes from its mark on, or the inline word, else zero"
abbrev pub outgoing_word : Direction → Bool → ℕ → List ℕ → ℕ
outgoing_word Incoming wide mark outgoing = 0
outgoing_word Outgoing wide mark outgoing = word_at wide mark outgoing
outgoing_word Neither wide mark outgoing = 0

unfoldable pub word_wanted : Transfer → Bool → ℕ → List ℕ → ℕ
word_wanted (Single q a) wide mark outgoing = outgoing_word (direction_of (Single q a)) wide mark outgoing
word_wanted (Block q a n) wide mark outgoing = outgoing_word (direction_of (Block q a n)) wide mark outgoing
word_wanted (Enhanced q a n) wide mark outgoing = outgoing_word (direction_of (Enhanced q a n)) wide mark outgoing
word_wanted (Inline q a word) wide mark outgoing = word

-- "the operation wanted next: crate, N, A, F and data", of an instruction at a record's position; it "gains a sixth number" (E1)
unfoldable pub operation_of : Command → Record → List ℕ → Operation
operation_of c r outgoing = record {
  crate_number = (address_of c.transfer).crate_number;
  station = r.position.station;
  subaddress = r.position.subaddress;
  function = (address_of c.transfer).function;
  word = word_wanted c.transfer c.wide r.marks.outgoing outgoing;
  enhanced = is_enhanced c.transfer;
}

unfoldable pub wanted_at : List Visit → Record → List ℕ → Operation
wanted_at [] r outgoing = no_operation
wanted_at (v ∷ vs) r outgoing = elim v.instruction [
  | Camac c ↦ operation_of c r outgoing
  | Jump target ↦ no_operation
  | Literal x ↦ no_operation
  | Halt ↦ no_operation
]

unfoldable pub wanted_of : Plan → State → Operation
wanted_of p s = if s.run.ended then no_operation else wanted_at (on_from s.run.spot p.visits) s.run s.outgoing

-- Start and step ---------------------------------------------------------------------------------------------------------

-- what a call leaves: its refusal (number 0: none), the operation wanted next, the record and both buffers
pub record Called : Type 0 where
  pub refusal : Refusal
  pub wanted : Operation
  pub state : State

-- "A refusal yields number, place and zeros"; "Record and buffers keep their contents"
abbrev pub refused_call : Refusal → State → Called
refused_call r s = record { refusal = r; wanted = no_operation; state = s }

abbrev pub taken_call : Plan → State → Called
taken_call p s = record { refusal = not_refused; wanted = wanted_of p s; state = s }

-- the state in which an admitted list's run begins: "runs to the first operation or the end"
unfoldable pub begun : Plan → List ℕ → List ℕ → State
begun p incoming outgoing = run_on p.visits (state_of (zero_record false) incoming outgoing)

abbrev pub start_prepared : Prepared → List ℕ → List ℕ → Called
start_prepared (unfit r) incoming outgoing = refused_call r (state_of refused_record incoming outgoing)
start_prepared (ready p) incoming outgoing = taken_call p (begun p incoming outgoing)

-- "Start takes the list and both buffers and runs to the first operation or the end"
unfoldable pub start_of : List ℕ → List ℕ → List ℕ → Called
start_of list incoming outgoing = start_prepared (prepare list (length incoming) (length outgoing)) incoming outgoing

-- a reply taken at the first of the visits from the record's instruction on; a record that fits waits at a CAMAC instruction, so that
-- nothing looks at the other values
unfoldable pub take_from : ℕ → List Visit → Reply → State → State
take_from limit [] reply s = s
take_from limit (v ∷ rest) reply s = elim v.instruction [
  | Camac c ↦ take_reply limit rest c reply s
  | Jump target ↦ s
  | Literal x ↦ s
  | Halt ↦ s
]

unfoldable pub take_at : Plan → Reply → State → State
take_at p reply s = take_from p.limit (on_from s.run.spot p.visits) reply s

-- "22 reply not formed as above"
abbrev pub step_reply : Plan → Option Reply → State → Called
step_reply p none s = refused_call (refusal 22) s
step_reply p (some reply) s = taken_call p (take_at p reply s)

-- "24 ended; 23 record doesn't fit; 22 reply not formed": in the order "then 10 over all fields, 11, 20, 21, 24, 23, 22"
abbrev pub step_prepared : Prepared → List ℕ → State → Called
step_prepared (unfit r) reply s = refused_call r s
step_prepared (ready p) reply s =
    if s.run.ended then refused_call (refusal 24) s
    else if fits p s.run then step_reply p (reply_of reply) s
    else refused_call (refusal 23) s

-- "Step takes list, record, buffers, one reply"
unfoldable pub step_of : List ℕ → State → List ℕ → Called
step_of list s reply = step_prepared (prepare list (length s.incoming) (length s.outgoing)) reply s

-- what code answers of a call: the record, which a refusal leaves as the one kept, and the operation, where none is wanted all zero
abbrev pub operation_or_none : std.Option Operation → Operation
operation_or_none (Some o) = o
operation_or_none None = no_operation

abbrev pub run_in : Record → Result Yield Refused → Record
run_in kept (Ok y) = y.run
run_in kept (Err r) = kept

abbrev pub wanted_in : Result Yield Refused → Operation
wanted_in (Ok y) = operation_or_none y.wanted
wanted_in (Err r) = no_operation

-- a call is answered as it is defined: its answer, with the record kept where it is refused, and both lent buffers at its exit
pub record Yields (called : Called) (kept : Record) (y : Result Yield Refused) (incoming outgoing : List ℕ) : Type 0 where
  pub refusal : refusal_of y ≡ called.refusal
  pub run : run_in kept y ≡ called.state.run
  pub wanted : wanted_in y ≡ called.wanted
  pub incoming_bytes : incoming ≡ called.state.incoming
  pub outgoing_bytes : outgoing ≡ called.state.outgoing

-- The whole run ----------------------------------------------------------------------------------------------------------

-- what a whole run leaves: its refusal, the replies taken, the record and both buffers
pub record RunThrough : Type 0 where
  pub refusal : Refusal
  pub taken : ℕ
  pub state : State

-- "equals start and steps, and stops at the end or when replies run out; it reports how many it took". Nothing looks at a
-- refused step here: the row was checked, and a record that start and steps reach fits (worst_count/specs/WorstCount:refusals).
unfoldable pub steps_over : List ℕ → List (List ℕ) → ℕ → State → RunThrough
steps_over list [] taken s = record { refusal = not_refused; taken = taken; state = s }
steps_over list (r ∷ rs) taken s =
    if s.run.ended then record { refusal = not_refused; taken = taken; state = s }
    else steps_over list rs (taken + 1) (step_of list s r).state

abbrev pub refused_run : Refusal → List ℕ → List ℕ → RunThrough
refused_run r incoming outgoing = record { refusal = r; taken = 0; state = state_of refused_record incoming outgoing }

-- "22 .. a row with such a reply anywhere or not a multiple of 8"; "The whole run checks its entire row before starting, replies past
-- the run's end included"
abbrev pub run_prepared : Prepared → List ℕ → List ℕ → List ℕ → List ℕ → RunThrough
run_prepared (unfit r) list incoming outgoing row = refused_run r incoming outgoing
run_prepared (ready p) list incoming outgoing row =
    if all_formed (replies_in row) then steps_over list (replies_in row) 0 (start_of list incoming outgoing).state
    else refused_run (refusal 22) incoming outgoing

-- "A whole-run call takes a row of replies"
unfoldable pub run_of : List ℕ → List ℕ → List ℕ → List ℕ → RunThrough
run_of list incoming outgoing row = run_prepared (prepare list (length incoming) (length outgoing)) list incoming outgoing row

-- what code answers of a whole run: the replies taken, and the record
abbrev pub taken_in : Result Ran Refused → ℕ
taken_in (Ok x) = x.taken
taken_in (Err r) = 0

abbrev pub ran_run : Result Ran Refused → Record
ran_run (Ok x) = x.run
ran_run (Err r) = refused_record

-- a whole run is answered as it is defined: its answer, and both lent buffers at its exit
pub record Runs (through : RunThrough) (r : Result Ran Refused) (incoming outgoing : List ℕ) : Type 0 where
  pub refusal : refusal_of r ≡ through.refusal
  pub taken : taken_in r ≡ through.taken
  pub run : ran_run r ≡ through.state.run
  pub incoming_bytes : incoming ≡ through.state.incoming
  pub outgoing_bytes : outgoing ≡ through.state.outgoing

-- Several replies from a record on ---------------------------------------------------------------------------------------

-- Ours, between document 01's step and its whole run: the steps of a row of replies, from a record on. What they leave: the refusal, the
-- replies taken, the operation wanted next, the record and both buffers.
pub record Stepping : Type 0 where
  pub refusal : Refusal
  pub taken : ℕ
  pub wanted : Operation
  pub state : State

abbrev pub refused_steps : Refusal → State → Stepping
refused_steps r s = record { refusal = r; taken = 0; wanted = no_operation; state = s }

abbrev pub taken_steps : Plan → RunThrough → Stepping
taken_steps p x = record { refusal = x.refusal; taken = x.taken; wanted = wanted_of p x.state; state = x.state }

-- 22, as of the whole run: the entire row is checked before its first reply is taken
abbrev pub steps_row : Plan → List ℕ → List ℕ → State → Stepping
steps_row p list row s =
    if all_formed (replies_in row) then taken_steps p (steps_over list (replies_in row) 0 s) else refused_steps (refusal 22) s

-- 24, 23 and 22 as of a step
abbrev pub steps_prepared : Prepared → List ℕ → List ℕ → State → Stepping
steps_prepared (unfit r) list row s = refused_steps r s
steps_prepared (ready p) list row s =
    if s.run.ended then refused_steps (refusal 24) s
    else if fits p s.run then steps_row p list row s
    else refused_steps (refusal 23) s

unfoldable pub steps_of : List ℕ → State → List ℕ → Stepping
steps_of list s row = steps_prepared (prepare list (length s.incoming) (length s.outgoing)) list row s

-- what code answers of several replies: the replies taken, the record, which a refusal leaves as the one kept, and the operation
abbrev pub steps_taken : Result Stepped Refused → ℕ
steps_taken (Ok y) = y.taken
steps_taken (Err r) = 0

abbrev pub steps_run : Record → Result Stepped Refused → Record
steps_run kept (Ok y) = y.run
steps_run kept (Err r) = kept

abbrev pub steps_wanted : Result Stepped Refused → Operation
steps_wanted (Ok y) = operation_or_none y.wanted
steps_wanted (Err r) = no_operation

-- steps are answered as they are defined: their answer, with the record kept where they are refused, and both lent buffers at their exit
pub record Steps (stepping : Stepping) (kept : Record) (y : Result Stepped Refused) (incoming outgoing : List ℕ) : Type 0 where
  pub refusal : refusal_of y ≡ stepping.refusal
  pub taken : steps_taken y ≡ stepping.taken
  pub run : steps_run kept y ≡ stepping.state.run
  pub wanted : steps_wanted y ≡ stepping.wanted
  pub incoming_bytes : incoming ≡ stepping.state.incoming
  pub outgoing_bytes : outgoing ≡ stepping.state.outgoing

-- The last moved word ----------------------------------------------------------------------------------------------------

-- a part of the incoming (0) or the outgoing (1) buffer: where it begins there, and its bytes
pub record Part : Type 0 where
  pub buffer : ℕ
  pub offset : ℕ
  pub bytes : List ℕ

-- "an empty incoming part"
abbrev pub no_part : Part
no_part = record { buffer = 0; offset = 0; bytes = [] }

abbrev pub part_of : Note → List ℕ → Part
part_of note bytes = record {
  buffer = note.buffer;
  offset = note.offset;
  bytes = take note.size (drop note.offset bytes);
}

-- whether a note is of a word, and of one that lies in this buffer of so many bytes
unfoldable pub lies_in : ℕ → ℕ → Note → Bool
lies_in buffer end note =
    all_of (leb 1 note.size ∷ eqb note.buffer buffer ∷ leb (note.offset + note.size) end ∷ [])

-- "The last moved word is shown as a part of whichever buffer carried it", "or an empty incoming part if none or if the note lies
-- outside"
unfoldable pub last_moved : Note → List ℕ → List ℕ → Part
last_moved note incoming outgoing =
    if lies_in 0 (length incoming) note then part_of note incoming
    else if lies_in 1 (length outgoing) note then part_of note outgoing
    else no_part

-- where a part lies, by where the two buffers lie: the block, and the offset in it
abbrev pub place_of : Part → ℕ × ℕ → ℕ × ℕ → ℕ × ℕ
place_of p incoming outgoing =
    if eqb p.buffer 0 then (incoming.0, incoming.1 + p.offset) else (outgoing.0, outgoing.1 + p.offset)
