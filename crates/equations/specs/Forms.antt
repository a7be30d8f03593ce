-- How this crate's equations are written: bytes, fields, replies, records and answers. The fields beside those here are worst_count/specs/Cases'.
use Rattle.std.specs.Prelude.{ℕ, zero, suc, ◌/◌, ◌%◌, ◌^◌, Bool, true, false, List, [], ◌∷◌, ◌++◌}
use Rattle.base.specs.Refusals.{not_refused}
use Rattle.packing.specs.Packing.{bytes_of}
use Rattle.listfile.specs.Fields.{Field, Fields, faulty}
use Rattle.listfile.specs.declared.field.Instruction.TheVariants.{Halt}
use Rattle.walk.specs.Admission.{Admission}
use Rattle.walk.specs.Admission.{Refused, Admitted}
use Rattle.reply.specs.Effect.{State}
use Rattle.reply.specs.declared.records.Note.{Note}
use Rattle.reply.specs.declared.records.Record.{Record}
use Rattle.calls.specs.Calls.{Called, RunThrough, Part, no_operation}
use Rattle.calls.specs.declared.operations.Operation.{Operation}

-- Bytes ------------------------------------------------------------------------------------------------------------------

-- so many bytes, in the order in which the hexadecimal number is written
abbrev pub hex : ℕ → ℕ → List ℕ
hex zero v = []
hex (suc n) v = v / 256 ^ n % 256 ∷ hex n v

-- CAMAC fields of length 4 and of length 8
abbrev pub camac_4 : ℕ → List ℕ
camac_4 first = 0x10 ∷ 4 ∷ 0 ∷ bytes_of true first

abbrev pub camac_8 : ℕ → ℕ → List ℕ
camac_8 first second = 0x10 ∷ 8 ∷ 0 ∷ bytes_of true first ++ bytes_of true second

-- Replies ----------------------------------------------------------------------------------------------------------------

-- the bits of byte 1
abbrev pub Q : ℕ
Q = 1

abbrev pub X : ℕ
X = 2

abbrev pub ERR : ℕ
ERR = 4

abbrev pub DERR : ℕ
DERR = 8

abbrev pub TPE : ℕ
TPE = 16

abbrev pub LPE : ℕ
LPE = 32

-- an answer, by byte 1 and its data
abbrev pub answer : ℕ → ℕ → List ℕ
answer flags word = 0 ∷ flags ∷ 0 ∷ 0 ∷ word % 256 ∷ word / 256 % 256 ∷ word / 65536 % 256 ∷ 0 ∷ []

-- a reply of kind 1, 2 or 3
abbrev pub kind : ℕ → List ℕ
kind k = k ∷ 0 ∷ 0 ∷ 0 ∷ 0 ∷ 0 ∷ 0 ∷ 0 ∷ []

-- Records ----------------------------------------------------------------------------------------------------------------

-- a record by its numbers, in document 01's order: "ended, instruction, words left, tries made, current N and A, both marks, operations,
-- status, note of the last move"
abbrev pub record_of : Bool → ℕ → ℕ → ℕ → ℕ → ℕ → ℕ → ℕ → ℕ → ℕ → ℕ → ℕ → ℕ → Record
record_of isEnded instruction left tries n a incoming outgoing operations status buffer offset size = record {
  ended = isEnded;
  spot = record { instruction = instruction };
  left = left;
  tries = tries;
  position = record { station = n; subaddress = a };
  marks = record { incoming = incoming; outgoing = outgoing };
  operations = operations;
  status = status;
  note = record { buffer = buffer; offset = offset; size = size };
}

abbrev pub waiting : ℕ → ℕ → ℕ → ℕ → ℕ → ℕ → ℕ → ℕ → ℕ → ℕ → ℕ → ℕ → Record
waiting = record_of false

abbrev pub ended : ℕ → ℕ → ℕ → ℕ → ℕ → ℕ → ℕ → ℕ → ℕ → ℕ → ℕ → ℕ → Record
ended = record_of true

abbrev pub note : ℕ → ℕ → ℕ → Note
note buffer offset size = record { buffer = buffer; offset = offset; size = size }

-- Answers ----------------------------------------------------------------------------------------------------------------

-- admission's: W, B, O; number and place
abbrev pub admitted : ℕ → ℕ → ℕ → Admission
admitted w b o = Admitted (record { worst = w; incoming = b; outgoing = o })

abbrev pub refused : ℕ → ℕ → Admission
refused number place = Refused (record { number = number; place = place })

-- fields that were read: a halt at a place; a refusal
abbrev pub halt_at : ℕ → Field
halt_at place = record { place = place; instruction = Halt }

abbrev pub refused_at : ℕ → ℕ → Fields
refused_at number place = faulty (record { number = number; place = place })

-- the operation wanted next: crate, N, A, F, data, whether it is enhanced
abbrev pub operation : ℕ → ℕ → ℕ → ℕ → ℕ → Bool → Operation
operation c n a f word is_enhanced = record {
  crate_number = c;
  station = n;
  subaddress = a;
  function = f;
  word = word;
  enhanced = is_enhanced;
}

-- start's and step's: not refused, with an operation wanted or with none; refused
abbrev pub wants : Operation → State → Called
wants o s = record { refusal = not_refused; wanted = o; state = s }

abbrev pub wants_none : State → Called
wants_none s = wants no_operation s

abbrev pub refused_with : ℕ → ℕ → State → Called
refused_with number place s = record { refusal = record { number = number; place = place }; wanted = no_operation; state = s }

-- the whole run's: number and place of its refusal, the replies taken
abbrev pub ran : ℕ → ℕ → ℕ → State → RunThrough
ran number place taken s = record { refusal = record { number = number; place = place }; taken = taken; state = s }

-- the last moved word: its buffer, where it begins there, its bytes
abbrev pub part : ℕ → ℕ → List ℕ → Part
part buffer offset bytes = record { buffer = buffer; offset = offset; bytes = bytes }
