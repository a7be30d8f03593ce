-- A run on its way along the walk, as code makes it over the table of places. Nothing here is a rule of document 01.
use Rattle.std.specs.Prelude.{ℕ, ◌^◌, ◌≤◌, ◌<◌, ◌≡◌, false, List, length, get_or, if◌then◌else◌}
use Rattle.base.specs.Bytes.{Bytes}
use Rattle.camac.specs.declared.words.Command.{Command}
use Rattle.listfile.specs.model.Table.{instruction_at}
use Rattle.listfile.specs.declared.check.Sizes.{Sizes}
use Rattle.listfile.specs.declared.field.Instruction.{Instruction}
use Rattle.listfile.specs.declared.field.Instruction.TheVariants.{Camac, Jump, Literal, Halt}
use Rattle.walk.specs.Walk.{spot_after, marks_over}
use Rattle.walk.specs.Admission.{ready, plan_of, prepare}
use Rattle.walk.specs.model.Sums.{rest_from, plan_by, PlannedRight}
use Rattle.walk.specs.declared.worst.Counts.{Counts}
use Rattle.walk.proofs.Rest.{OnWalk}
use Rattle.calls.specs.Calls.{no_operation, operation_of}
use Rattle.reply.specs.declared.records.Record.{Record}
use Rattle.calls.specs.declared.operations.Operation.{Operation}
use Rattle.take.specs.declared.Taken.{Taken}
use Rattle.take.specs.declared.Taken.TheVariants.{Same, Through, Ended}
use Rattle.walk.specs.declared.visits.Spot.{Spot}

-- what the plan of a list that passes 1 to 11 leaves
pub record PlannedFor (list table : List ℕ) (s : Sizes) (counts : Counts) : Type 0 where
  pub bytes : Bytes list
  pub entries : length table ≡ 4096
  pub planned : PlannedRight list table s counts
  pub plan : plan_of list ≡ ready (plan_by list s)

-- what the preparation of an admitted list leaves, for two buffer lengths
pub record PreparedFor (list table : List ℕ) (s : Sizes) (counts : Counts) (incoming outgoing : ℕ) : Type 0 where
  pub bytes : Bytes list
  pub entries : length table ≡ 4096
  pub planned : PlannedRight list table s counts
  pub prepared : prepare list incoming outgoing ≡ ready (plan_by list s)

-- a record between instructions, with the one at spot k next and room for the rest of the walk
pub record Going (list : List ℕ) (count : ℕ) (k : Spot) (r : Record) (incoming : List ℕ) : Type 0 where
  pub on : OnWalk list count k
  pub room : (marks_over (rest_from list count k) r.marks).incoming ≤ length incoming

-- the record of a reply taken; where its last word is through, the run goes on with the next instruction
abbrev pub record_in : Taken → Record
record_in (Same r) = r
record_in (Through r) = r
record_in (Ended r) = r

abbrev pub GoingBy : List ℕ → ℕ → Taken → List ℕ → Type 0
GoingBy list count (Same r) incoming = Unit {0}
GoingBy list count (Through r) incoming = Going list count (spot_after r.spot) r incoming
GoingBy list count (Ended r) incoming = Unit {0}

-- a record that waits has its instruction in the table, and its outgoing mark fits
abbrev pub Askable : List ℕ → Record → Type 0
Askable table r = r.ended ≡ false → (r.spot.instruction < length table) × (r.marks.outgoing < 2 ^ 63)

-- a record that waits does so at a CAMAC instruction
pub record AtCommand (list table : List ℕ) (r : Record) : Type 0 where
  pub command : Command
  pub camac : instruction_at list (get_or table r.spot.instruction 0) ≡ Camac command

abbrev pub Waiting : List ℕ → List ℕ → Record → Type 0
Waiting list table r = r.ended ≡ false → AtCommand list table r

abbrev pub operation_at : Instruction → Record → List ℕ → Operation
operation_at (Camac c) r outgoing = operation_of c r outgoing
operation_at (Jump target) r outgoing = no_operation
operation_at (Literal v) r outgoing = no_operation
operation_at Halt r outgoing = no_operation

-- the operation that a record waits for, by the table
unfoldable pub wanted_by : List ℕ → List ℕ → Record → List ℕ → Operation
wanted_by list table r outgoing =
    if r.ended then no_operation else operation_at (instruction_at list (get_or table r.spot.instruction 0)) r outgoing
