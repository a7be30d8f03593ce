-- Demand 3 (document 01, "Worst count"): the worst count that admission reports is the true maximum. The statement is WorstCount, last on this page;
-- the proof is proofs/Bound.
use Rattle.std.specs.Prelude.{ℕ, suc, ◌≤◌, ◌≡◌, Bool, true, false, List, [], ◌∷◌, ◌++◌, length, get_or, eqb, if◌then◌else◌}
use Rattle.std.proofs.Math.Option.{some}
use Rattle.base.specs.Checks.{bit}
use Rattle.qmodes.specs.Modes.{left_after}
use Rattle.camac.specs.Words.{qmode_of}
use Rattle.camac.specs.declared.words.Command.{Command}
use Rattle.base.specs.Bytes.{Bytes}
use Rattle.listfile.specs.declared.field.Instruction.TheVariants.{Camac, Jump, Literal, Halt}
use Rattle.walk.specs.Walk.{Visit, on_from}
use Rattle.walk.specs.Admission.{Plan, ready, prepare, admit_of}
use Rattle.walk.specs.declared.worst.Counts.{Counts}
use Rattle.walk.specs.Admission.{Admitted}
use Rattle.reply.specs.Replies.{reply_of, is_formed}
use Rattle.reply.specs.Causes.{done_by, closed_by, code_of}
use Rattle.reply.specs.Status.{code_in}
use Rattle.reply.specs.Effect.{State}
use Rattle.calls.specs.Calls.{start_of, step_of}
use Rattle.reply.specs.declared.records.Record.{Record}
use Rattle.reply.specs.declared.replies.Reply.{Reply}

-- Sequences of calls -----------------------------------------------------------------------------------------------------

-- what a step is lent in place of one of the run's buffers: that buffer, or another
pub data Lent : Type 0 where
  own : Lent
  other : List ℕ → Lent

abbrev pub lent : Lent → List ℕ → List ℕ
lent own buffer = buffer
lent (other bytes) buffer = bytes

-- the run's buffer after a step that left `after` in what it was lent
abbrev pub kept_by : Lent → List ℕ → List ℕ → List ℕ
kept_by own before after = after
kept_by (other bytes) before after = before

-- what a step with those buffers finds, and what it leaves of the run
abbrev pub finds : State → Lent → Lent → State
finds s i o = record { run = s.run; incoming = lent i s.incoming; outgoing = lent o s.outgoing }

abbrev pub leaves : State → Lent → Lent → State → State
leaves s i o x = record { run = x.run; incoming = kept_by i s.incoming x.incoming; outgoing = kept_by o s.outgoing x.outgoing }

-- A sequence of steps from a state, with the replies that were taken, in time order, to a state; each step finds record and buffers as the one
-- before left them. "each step of the sequence is given that list, the two buffers and any bytes as its reply"; "a step that is refused may have
-- been given another list or other buffers". "A reply is taken when its step isn't refused."
pub data Calls (list : List ℕ) : State → List (List ℕ) → State → Type 0 where
  no_call : {s : State} → Calls list s [] s
  taken : {s end : State} {replies : List (List ℕ)} (reply : List ℕ) → (step_of list s reply).refusal.number ≡ 0
      → Calls list (step_of list s reply).state replies end → Calls list s (reply ∷ replies) end
  refused : {s end : State} {replies : List (List ℕ)} (list' : List ℕ) (i o : Lent) (reply : List ℕ) (number : ℕ)
      → (step_of list' (finds s i o) reply).refusal.number ≡ suc number
      → Calls list (leaves s i o (step_of list' (finds s i o) reply).state) replies end → Calls list s replies end

-- the state that taken replies alone lead to
unfoldable pub after_replies : List ℕ → State → List (List ℕ) → State
after_replies list s [] = s
after_replies list s (reply ∷ replies) = after_replies list (step_of list s reply).state replies

-- What a run has met -----------------------------------------------------------------------------------------------------

-- visits on which halt comes before any operation
unfoldable pub halts_first : List Visit → Bool
halts_first [] = false
halts_first (v ∷ vs) = elim v.instruction [ Camac c ↦ false | Jump target ↦ halts_first vs | Literal x ↦ halts_first vs | Halt ↦ true ]

-- a record waits at this CAMAC instruction of the walk, with these visits after it
pub record WaitsAt (p : Plan) (r : Record) (c : Command) (rest : List Visit) : Type 0 where
  pub visit : Visit
  pub found : on_from r.spot p.visits ≡ visit ∷ rest
  pub camac : visit.instruction ≡ Camac c

-- a reply without a cause finishes an instruction: the last word done, or the block closed
abbrev pub finishes : Command → Reply → ℕ → Bool
finishes c x left = eqb (left_after (qmode_of c.transfer) (done_by (qmode_of c.transfer) x) left) 0

-- What a run met with the last of the replies taken, or at the start: halt, code 0, or a cause, with its code. Halt is met where no operation
-- is left: at the start, or when a reply finished the last operation.
pub data Met (list : List ℕ) (p : Plan) (start : State) : List (List ℕ) → ℕ → Type 0 where
  halt_at_start : halts_first p.visits ≡ true → Met list p start [] 0
  halt_after : (replies : List (List ℕ)) (reply : List ℕ) (c : Command) (x : Reply) (rest : List Visit)
      → WaitsAt p (after_replies list start replies).run c rest → reply_of reply ≡ some x
      → code_of p.limit c (after_replies list start replies).run x ≡ 0
      → finishes c x (after_replies list start replies).run.left ≡ true → halts_first rest ≡ true → Met list p start (replies ++ reply ∷ []) 0
  a_cause : (replies : List (List ℕ)) (reply : List ℕ) (c : Command) (x : Reply) (rest : List Visit) (code : ℕ)
      → WaitsAt p (after_replies list start replies).run c rest → reply_of reply ≡ some x
      → code_of p.limit c (after_replies list start replies).run x ≡ suc code → Met list p start (replies ++ reply ∷ []) (suc code)

-- "A run has ended once it met halt or a cause listed above; the record says so, with the code."
pub record Ended (list : List ℕ) (p : Plan) (start : State) (replies : List (List ℕ)) (s : State) : Type 0 where
  pub when_met : (code : ℕ) → Met list p start replies code → (s.run.ended ≡ true) × (code_in s.run.status ≡ code)
  pub met_when : s.run.ended ≡ true → Met list p start replies (code_in s.run.status)
  -- "7 ended"; no code before
  pub bit_seven : bit 7 s.run.status ≡ s.run.ended
  pub no_code : s.run.ended ≡ false → code_in s.run.status ≡ 0

-- Both halves ------------------------------------------------------------------------------------------------------------

-- the state in which start leaves a run
abbrev pub start_state : List ℕ → List ℕ → List ℕ → State
start_state list incoming outgoing = (start_of list incoming outgoing).state

-- What holds after every sequence of steps. "The operation and byte counts are the W and B that admission reported for this list": c has them.
pub record Holds (list incoming outgoing : List ℕ) (c : Counts) (replies : List (List ℕ)) (s : State) : Type 0 where
  -- "Operations made are the replies taken since the start": "never more than W operations, W operations only when ended" (demand 3)
  pub within : length replies ≤ c.worst
  pub last : length replies ≡ c.worst → s.run.ended ≡ true
  -- "and after every sequence the record's number of operations equals them"
  pub count : s.run.operations ≡ length replies
  -- "refused calls alter nothing" (demand 3): record and buffers are those that the taken replies alone lead to
  pub unaltered : s ≡ after_replies list (start_state list incoming outgoing) replies
  -- nor does a refused call alter another buffer that it was lent
  pub kept : (list' : List ℕ) (i o : Lent) (reply : List ℕ) (number : ℕ) → (step_of list' (finds s i o) reply).refusal.number ≡ suc number
      → (step_of list' (finds s i o) reply).state ≡ finds s i o
  -- "A step given that list and the two buffers is refused exactly when the run has ended or its reply isn't formed as above", with the number
  pub refusals : (reply : List ℕ)
      → (step_of list s reply).refusal.number ≡ (if s.run.ended then 24 else if is_formed reply then 0 else 22)
  -- "A run has ended once it met halt or a cause listed above; the record says so, with the code", on the walk that admission prepared
  pub plan : Plan
  pub prepared : prepare list (length incoming) (length outgoing) ≡ ready plan
  pub ending : Ended list plan (start_state list incoming outgoing) replies s
  -- "no byte at or beyond B changes" (demand 3); "start's own writes are among those judged against B"
  pub beyond : (i : ℕ) → c.incoming ≤ i → get_or s.incoming i 0 ≡ get_or incoming i 0
  pub same_length : length s.incoming ≡ length incoming
  pub same_outgoing : s.outgoing ≡ outgoing
  -- "B and O become the most that can be stored and taken; no reply list passes them" (E8)
  pub marks_in : s.run.marks.incoming ≤ c.incoming
  pub marks_out : s.run.marks.outgoing ≤ c.outgoing

-- no step of a row is refused
abbrev pub NoneRefused : List ℕ → State → List (List ℕ) → Type 0
NoneRefused list s [] = Unit {0}
NoneRefused list s (reply ∷ replies) = ((step_of list s reply).refusal.number ≡ 0) × NoneRefused list (step_of list s reply).state replies

-- no reply of a row closes a block at the instruction where it is taken
abbrev pub NoneCloses : Plan → List ℕ → State → List (List ℕ) → Type 0
NoneCloses p list s [] = Unit {0}
NoneCloses p list s (reply ∷ replies) =
    ((c : Command) (x : Reply) (rest : List Visit) → WaitsAt p s.run c rest → reply_of reply ≡ some x → closed_by c.transfer x ≡ false)
    × NoneCloses p list (step_of list s reply).state replies

-- "some sequence attains W with code 0 and the mark at B" (demand 3), and the outgoing mark at O; none of its steps is refused. It is "some run without
-- short blocks" (E8): code 0 at W operations does not say so, for the last reply may close the last block.
pub record Attained (list : List ℕ) (start : State) (c : Counts) : Type 0 where
  pub replies : List (List ℕ)
  pub plan : Plan
  pub prepared : prepare list (length start.incoming) (length start.outgoing) ≡ ready plan
  pub none_closes : NoneCloses plan list start replies
  pub none_refused : NoneRefused list start replies
  pub made : length replies ≡ c.worst
  pub ends : (after_replies list start replies).run.ended ≡ true
  pub code : code_in (after_replies list start replies).run.status ≡ 0
  pub mark_in : (after_replies list start replies).run.marks.incoming ≡ c.incoming
  pub mark_out : (after_replies list start replies).run.marks.outgoing ≡ c.outgoing

-- "Demand 3 is one statement about a whole sequence of steps; statements about each call don't replace it." "Over every sequence of steps from every
-- start of every admitted list" (demand 3): start is not refused, every sequence of steps from it holds, and one attains W. "The bound and its
-- reachability hold for lists that hold either" (E1): enhanced and standard blocks.
abbrev pub WorstCount : Type 0
WorstCount =
    (list incoming outgoing : List ℕ) (c : Counts) → Bytes list
    → admit_of list (length incoming) (length outgoing) ≡ Admitted c
    → ((start_of list incoming outgoing).refusal.number ≡ 0)
    × ((replies : List (List ℕ)) (s : State) → Calls list (start_state list incoming outgoing) replies s → Holds list incoming outgoing c replies s)
    × Attained list (start_state list incoming outgoing) c
