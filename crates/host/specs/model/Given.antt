-- A record given by its numbers, as code takes and leaves it. Nothing here is a rule of document 01.
use Rattle.base.specs.declared.refusals.Refused.{Refused}
use Rattle.std.specs.Prelude.{Result, Ok, Err, ℕ, ◌&&◌, List, eqb, if◌then◌else◌}
use Rattle.base.specs.Refusals.{Refusal}
use Rattle.reply.specs.Effect.{zero_record}
use Rattle.reply.specs.declared.records.Record.{Record}
use Rattle.calls.specs.Calls.{record_numbers}
use Rattle.host.specs.Numbers.{ended_in, is_narrow, record_with}

-- a record that fits no list, with the same `ended`, stands for numbers that are no record's
abbrev pub record_or : List ℕ → Record
record_or n = if is_narrow n then record_with n else zero_record (ended_in n)

-- the numbers after a call
abbrev pub numbers_after : List ℕ → Refusal → Record → List ℕ
numbers_after given r run = if is_narrow given && eqb r.number 0 then record_numbers run else given

-- the same by the code's answer
abbrev pub numbers_by : List ℕ → Result Record Refused → List ℕ
numbers_by given (Ok run) = if is_narrow given then record_numbers run else given
numbers_by given (Err r) = given

-- the record in a call's answer
abbrev pub run_by : {Y : Type 0} → (Y → Record) → Result Y Refused → Result Record Refused
run_by run (Ok y) = Ok (run y)
run_by run (Err r) = Err r
