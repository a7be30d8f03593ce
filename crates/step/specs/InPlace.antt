-- A step with its record lent.
use Rattle.std.specs.Prelude.{◌≡◌, List, ℕ, Option, Result, Ok, Err}
use Rattle.base.specs.Refusals.{refusal_of}
use Rattle.base.specs.declared.refusals.Refused.{Refused}
use Rattle.calls.specs.Calls.{Called, no_operation, operation_or_none}
use Rattle.calls.specs.declared.operations.Operation.{Operation}
use Rattle.reply.specs.declared.records.Record.{Record}

-- the operation that is answered beside the lent record and buffers
abbrev pub answer_of : Result (Option Operation) Refused → Operation
answer_of (Ok wanted) = operation_or_none wanted
answer_of (Err r) = no_operation

-- "The record is lent to the step and holds the new state afterwards": a step is answered as it is defined, its answer, and the lent record and
-- buffers at its exit
pub record Leaves (called : Called) (y : Result (Option Operation) Refused) (r : Record) (incoming outgoing : List ℕ) : Type 0 where
  pub refusal : refusal_of y ≡ called.refusal
  pub wanted : answer_of y ≡ called.wanted
  pub run : r ≡ called.state.run
  pub incoming_bytes : incoming ≡ called.state.incoming
  pub outgoing_bytes : outgoing ≡ called.state.outgoing
