-- The list file (document 01, "The list file"; refusals 1 to 5 and 10 of "Who can cause which refusal", 6 to 9 by the crate camac).
-- `at` is the place of a field, its first byte; `count` is how many instructions stand before it.
use Rattle.std.specs.Prelude.{ℕ, zero, suc, ◌+◌, min, Bool, true, false, ◌&&◌, ◌||◌, not, List, [], ◌∷◌, leb, ltb, eqb, length, if◌then◌else◌, Result, Ok, Err}
use Rattle.std.proofs.Math.Option.{Option, none, some}
use Rattle.base.specs.Checks.{Check, ◌gives◌, first_of}
use Rattle.camac.specs.Words.{decode_of}
use Rattle.camac.specs.declared.words.Command.{Command}
use Rattle.base.specs.Bytes.{byte_at, short_at, long_at}
use Rattle.base.specs.Refusals.{Refusal}
use Rattle.listfile.specs.declared.field.Instruction.{Instruction}
use Rattle.listfile.specs.declared.field.Instruction.TheVariants.{Camac, Jump, Literal, Halt}
use Rattle.listfile.specs.declared.field.Tag.{Tag}
use Rattle.listfile.specs.declared.field.Tag.TheVariants.{CamacTag, JumpTag, LiteralTag, HaltTag, UnknownTag}

-- One field --------------------------------------------------------------------------------------------------------------

-- "one-byte tag, two-byte length, body"
abbrev pub body_length : List ℕ → ℕ → ℕ
body_length list at = short_at list (at + 1)

abbrev pub next_field : List ℕ → ℕ → ℕ
next_field list at = at + 3 + body_length list at

-- "A field reader keeps the list and the offset of the next field together": where it comes to behind the field at an offset, the next field or the
-- list's end where the field runs past it
abbrev pub place_after : List ℕ → ℕ → ℕ
place_after list at = min (next_field list at) (length list)

-- "10h .. CAMAC instruction", "20h .. jump", "21h .. literal longword", "2Fh .. halt"
abbrev pub tag_of : ℕ → Tag
tag_of byte =
    if eqb byte 0x10 then CamacTag
    else if eqb byte 0x20 then JumpTag
    else if eqb byte 0x21 then LiteralTag
    else if eqb byte 0x2F then HaltTag
    else UnknownTag

abbrev pub tag_at : List ℕ → ℕ → Tag
tag_at list at = tag_of (byte_at list at)

-- "CAMAC instruction, one or two longwords": a field of length 4 has no second one, and its value here is 0
unfoldable pub first_at : List ℕ → ℕ → ℕ
first_at list at = long_at list (at + 3)

unfoldable pub second_at : List ℕ → ℕ → ℕ
second_at list at = if eqb (body_length list at) 8 then long_at list (at + 7) else 0

-- "3: unknown tag, or 01h again"
abbrev pub is_unknown : Tag → Bool
is_unknown CamacTag = false
is_unknown JumpTag = false
is_unknown LiteralTag = false
is_unknown HaltTag = false
is_unknown UnknownTag = true

-- "4: length wrong for its tag", by the table
abbrev pub wrong_length : Tag → ℕ → Bool
wrong_length CamacTag len = not (eqb len 4 || eqb len 8)
wrong_length JumpTag len = not (eqb len 2)
wrong_length LiteralTag len = not (eqb len 4)
wrong_length HaltTag len = not (eqb len 0)
wrong_length UnknownTag len = true

-- "1: a field's head or body runs past the end", "5: instruction 4,097", 3 and 4, in the order listed; 2 is the first field's
abbrev pub head_checks : List ℕ → ℕ → ℕ → List Check
head_checks list at count =
    ltb (length list) (at + 3) gives 1
    ∷ ltb (length list) (next_field list at) gives 1
    ∷ leb 4096 count gives 5
    ∷ is_unknown (tag_at list at) gives 3
    ∷ wrong_length (tag_at list at) (body_length list at) gives 4
    ∷ []

-- the first of them that applies; 0 where none does
unfoldable pub head_fault : List ℕ → ℕ → ℕ → ℕ
head_fault list at count = first_of (head_checks list at count)

abbrev pub carried_by : Result Command ℕ → Result Instruction ℕ
carried_by (Ok c) = Ok (Camac c)
carried_by (Err number) = Err number

-- a field's body by its tag: the instruction, "jump: number of the target instruction" among them, or 6 to 9
unfoldable pub body_of : Tag → List ℕ → ℕ → Result Instruction ℕ
body_of CamacTag list at = carried_by (decode_of (body_length list at) (first_at list at) (second_at list at))
body_of JumpTag list at = Ok (Jump (short_at list (at + 3)))
body_of LiteralTag list at = Ok (Literal (long_at list (at + 3)))
body_of HaltTag list at = Ok Halt
body_of UnknownTag list at = Err 3

abbrev pub after_head : ℕ → Result Instruction ℕ → Result Instruction ℕ
after_head zero body = body
after_head (suc number) body = Err (suc number)

-- the field at a place, "each in the order listed for 1 to 9"
unfoldable pub field_of : List ℕ → ℕ → ℕ → Result Instruction ℕ
field_of list at count = after_head (head_fault list at count) (body_of (tag_at list at) list at)

-- "01h .. format 1, a zero byte .. First field, once"
abbrev pub is_first : List ℕ → Bool
is_first list = eqb (byte_at list 0) 1 && eqb (byte_at list 3) 1 && eqb (byte_at list 4) 0

-- 1 of the first field, and "2: no field, or the first isn't as in the table": of length 4, with "R (two bytes, 1 to 65,535)"
abbrev pub first_checks : List ℕ → List Check
first_checks list =
    eqb (length list) 0 gives 2
    ∷ ltb (length list) 3 gives 1
    ∷ ltb (length list) (next_field list 0) gives 1
    ∷ not (eqb (body_length list 0) 4) gives 2
    ∷ ltb (short_at list 5) 1 gives 2
    ∷ not (is_first list) gives 2
    ∷ []

unfoldable pub first_fault : List ℕ → ℕ
first_fault list = first_of (first_checks list)

-- All fields -------------------------------------------------------------------------------------------------------------

-- an instruction with the place of its field
pub record Field : Type 0 where
  pub place : ℕ
  pub instruction : Instruction

pub data Fields : Type 0 where
  faulty : Refusal → Fields
  fields : List Field → Fields

abbrev pub ahead : Field → Fields → Fields
ahead f (faulty r) = faulty r
ahead f (fields fs) = fields (f ∷ fs)

-- a refusal's "Place: first byte of the field"
abbrev pub joined : ℕ → Result Instruction ℕ → Fields → Fields
joined at (Ok i) rest = ahead (record { place = at; instruction = i }) rest
joined at (Err number) rest = faulty (record { number = number; place = at })

-- "Fields go front to back", and "Unreached fields are checked too": those from `at` on. A field is at least three bytes, so that fuel for each byte
-- suffices.
unfoldable pub fields_from : ℕ → List ℕ → ℕ → ℕ → Fields
fields_from zero list at count = faulty (record { number = 1; place = at })
fields_from (suc fuel) list at count =
    if leb (length list) at then fields []
    else joined at (field_of list at count) (fields_from fuel list (next_field list at) (count + 1))

-- "10: jump target not an instruction"
abbrev pub bad_target : ℕ → Instruction → Bool
bad_target count (Camac c) = false
bad_target count (Jump target) = leb count target
bad_target count (Literal v) = false
bad_target count Halt = false

-- the place of the first such jump
unfoldable pub first_bad_jump : ℕ → List Field → Option ℕ
first_bad_jump count [] = none
first_bad_jump count (f ∷ fs) = if bad_target count f.instruction then some f.place else first_bad_jump count fs

-- a list that passes 1 to 10: "Instructions are the fields after the first, numbered from 0, at most 4,096. R is the try limit."
pub record Program : Type 0 where
  pub limit : ℕ
  pub fields : List Field

pub data Listed : Type 0 where
  refused : Refusal → Listed
  program : Program → Listed

abbrev pub after_jumps : ℕ → List Field → Option ℕ → Listed
after_jumps limit fs none = program (record { limit = limit; fields = fs })
after_jumps limit fs (some place) = refused (record { number = 10; place = place })

-- "then 10 over all fields"
abbrev pub after_fields : ℕ → Fields → Listed
after_fields limit (faulty r) = refused r
after_fields limit (fields fs) = after_jumps limit fs (first_bad_jump (length fs) fs)

abbrev pub after_first : ℕ → List ℕ → Listed
after_first zero list = after_fields (short_at list 5) (fields_from (length list) list 7 0)
after_first (suc number) list = refused (record { number = suc number; place = 0 })

-- refusals 1 to 10, or the program
unfoldable pub program_of : List ℕ → Listed
program_of list = after_first (first_fault list) list
