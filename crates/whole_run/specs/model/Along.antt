-- The run along the walk between answers, as code makes it: marks beside a spot, and a stay in place of a record. Nothing here is a rule of
-- document 01.
use Rattle.std.specs.Prelude.{ℕ, ◌≤◌, ◌≡◌, Some, None, List, length, get_or}
use Rattle.camac.specs.Words.{command_in, words_of, position_of}
use Rattle.camac.specs.model.Bits.{Passes}
use Rattle.camac.specs.declared.words.Command.{Command}
use Rattle.packing.specs.declared.Marks.{Marks}
use Rattle.listfile.specs.model.Table.{instruction_at, TableRight}
use Rattle.listfile.specs.declared.field.Instruction.{Instruction}
use Rattle.listfile.specs.declared.field.Instruction.TheVariants.{Camac, Halt}
use Rattle.walk.specs.Walk.{marks_over}
use Rattle.walk.specs.model.Sums.{rest_from}
use Rattle.walk.specs.declared.visits.Spot.{Spot}
use Rattle.walk.proofs.Rest.{OnWalk}
use Rattle.reply.specs.Effect.{with_marks, run_on, state_of}
use Rattle.reply.specs.declared.records.Record.{Record}
use Rattle.answers.specs.model.Visit.{place_of}
use Rattle.whole_run.specs.declared.along.Reached.{Reached}
use Rattle.whole_run.specs.declared.along.Opening.{Opening}
use Rattle.answers.specs.declared.Stay.{Stay}

-- a spot of the walk, with room for the literals and words of the walk from there
pub record Ahead (list : List ℕ) (count : ℕ) (k : Spot) (m : Marks) (b : List ℕ) : Type 0 where
  pub on : OnWalk list count k
  pub room : (marks_over (rest_from list count k) m).incoming ≤ length b

-- the table of an admitted list
pub record Tabled (list table : List ℕ) (count : ℕ) : Type 0 where
  pub entries : count ≤ length table
  pub few : count ≤ 4096
  pub right : TableRight list table count

-- a CAMAC instruction, by its first longword and the words it wants
pub record AtCommand (i : Instruction) (first words : ℕ) : Type 0 where
  pub second : ℕ
  pub passes : Passes first
  pub is : i ≡ Camac (command_in first second)
  pub wanted : words ≡ words_of (command_in first second).transfer

-- from a spot to the next CAMAC instruction or the halt
pub record Reaches (list table : List ℕ) (count : ℕ) (from : Spot) (m : Marks) (b : List ℕ) (x : Reached) (b' : List ℕ) : Type 0 where
  pub ahead : Ahead list count x.spot x.marks b'
  pub halt : x.command ≡ None → instruction_at list (get_or table x.spot.instruction 0) ≡ Halt
  pub command : (o : Opening) → x.command ≡ Some o → AtCommand (instruction_at list (get_or table x.spot.instruction 0)) o.first o.words
  pub goes : (r : Record) → r.marks ≡ m → (out : List ℕ)
      → run_on (rest_from list count from) (state_of r b out)
      ≡ run_on (rest_from list count x.spot) (state_of (with_marks x.marks r) b' out)

-- at the first word of an instruction
unfoldable pub arrived : Command → Marks → Stay → Stay
arrived c m s = record {
  taken = s.taken;
  left = words_of c.transfer;
  tries = 0;
  position = place_of (position_of c.transfer);
  marks = m;
  note = s.note;
}

-- the stay of a record before reply number `taken`
unfoldable pub stay_of : Record → ℕ → Stay
stay_of r taken = record {
  taken = taken;
  left = r.left;
  tries = r.tries;
  position = place_of r.position;
  marks = r.marks;
  note = r.note;
}
