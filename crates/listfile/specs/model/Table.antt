-- The pass over the fields as code makes it: a table of the places of fields. Nothing here is a rule of document 01.
use Rattle.std.specs.Prelude.{ℕ, zero, suc, ◌+◌, ◌<◌, ◌≤◌, ◌≡◌, List, [], ◌∷◌, ◌++◌, get_or, Result, Ok, Err, Some, None}
use Rattle.std.specs.Prelude.{Option}
use Rattle.std.proofs.Math.Option.{none, some}
use Rattle.std.proofs.Math.Option as logic
use Rattle.camac.specs.Words.{command_in}
use Rattle.base.specs.Bytes.{short_at, long_at}
use Rattle.base.specs.Checks.{◌gives◌, first_of}
use Rattle.listfile.specs.Fields.{body_length, next_field, tag_of, tag_at, first_at, second_at, is_unknown, wrong_length, body_of, after_head, field_of, Field, Fields, faulty, fields, Listed, refused, program}
use Rattle.listfile.specs.declared.field.Instruction.{Instruction}
use Rattle.listfile.specs.declared.field.Instruction.TheVariants.{Camac, Jump, Literal, Halt}
use Rattle.listfile.specs.declared.field.Tag.{Tag}
use Rattle.listfile.specs.declared.field.Tag.TheVariants.{CamacTag, JumpTag, LiteralTag, HaltTag, UnknownTag}
use Rattle.base.specs.Refusals.{told}
use Rattle.base.specs.declared.refusals.Refused.{Refused}
use Rattle.listfile.specs.declared.check.Extent.{Extent}
use Rattle.listfile.specs.declared.check.Sizes.{Sizes}

-- the instruction of a field that has passed its checks, read again without them
unfoldable pub instruction_by : Tag → List ℕ → ℕ → Instruction
instruction_by CamacTag list at = Camac (command_in (first_at list at) (second_at list at))
instruction_by JumpTag list at = Jump (short_at list (at + 3))
instruction_by LiteralTag list at = Literal (long_at list (at + 3))
instruction_by HaltTag list at = Halt
instruction_by UnknownTag list at = Halt

-- a field that lies in the list, by its tag: 3, 4, or what its body is read as
abbrev pub read_by : Tag → List ℕ → ℕ → Result Instruction ℕ
read_by tag list at = after_head (first_of (is_unknown tag gives 3 ∷ wrong_length tag (body_length list at) gives 4 ∷ [])) (body_of tag list at)

unfoldable pub instruction_at : List ℕ → ℕ → Instruction
instruction_at list at = instruction_by (tag_at list at) list at

-- the place of instruction k, behind the first field's seven bytes
unfoldable pub place_of : List ℕ → ℕ → ℕ
place_of list zero = 7
place_of list (suc k) = next_field list (place_of list k)

-- the first n fields
unfoldable pub first_fields : List ℕ → ℕ → List Field
first_fields list zero = []
first_fields list (suc n) = first_fields list n ++ record { place = place_of list n; instruction = instruction_at list (place_of list n) } ∷ []

-- the field at a place has passed its checks
pub record FieldPassed (list : List ℕ) (at : ℕ) : Type 0 where
  pub count : ℕ
  pub read : field_of list at count ≡ Ok (instruction_at list at)

-- entry k of a table is the place of instruction k, for the first n, and its field has passed its checks
pub record TableRight (list table : List ℕ) (n : ℕ) : Type 0 where
  pub entry : (k : ℕ) → k < n → get_or table k 0 ≡ place_of list k
  pub passed : (k : ℕ) → k < n → FieldPassed list (place_of list k)

-- a jump's target is below a number
abbrev pub TargetBelow : ℕ → Instruction → Type 0
TargetBelow x (Camac c) = Unit {0}
TargetBelow x (Jump target) = target < x
TargetBelow x (Literal v) = Unit {0}
TargetBelow x Halt = Unit {0}

-- so is that of each jump among the first n instructions
pub record Beyond (list : List ℕ) (n x : ℕ) : Type 0 where
  pub target : (k : ℕ) → k < n → TargetBelow x (instruction_at list (place_of list k))

-- what an answer of the pass says of the fields, and of the table
abbrev pub fields_by : List ℕ → Result Extent Refused → Fields
fields_by list (Ok e) = fields (first_fields list e.count)
fields_by list (Err r) = faulty (told r)

abbrev pub TableBy : List ℕ → List ℕ → Result Extent Refused → Type 0
TableBy list table (Ok e) = (e.count ≤ 4096) × (TableRight list table e.count × Beyond list e.count e.furthest)
TableBy list table (Err r) = Unit {0}

-- what an answer of the check of jumps says of the fields
abbrev pub bad_jump_by : Option ℕ → logic.Option ℕ
bad_jump_by (Some place) = some place
bad_jump_by None = none

-- what an answer of the checks 1 to 10 says of the list, and of the table
abbrev pub listed_by : List ℕ → Result Sizes Refused → Listed
listed_by list (Ok s) = program (record { limit = s.limit; fields = first_fields list s.count })
listed_by list (Err r) = refused (told r)

abbrev pub TableChecked : List ℕ → List ℕ → Result Sizes Refused → Type 0
TableChecked list table (Ok s) = (s.count ≤ 4096) × ((s.limit < 65536) × TableRight list table s.count)
TableChecked list table (Err r) = Unit {0}

-- what a byte says as a tag
abbrev pub ReadsTag : ℕ → Tag → Type 0
ReadsTag byte tag = tag ≡ tag_of byte
