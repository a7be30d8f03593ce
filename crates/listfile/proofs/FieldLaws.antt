-- A field's answer by its checks; and what a field that is read shows: it lies in the list, it is one of the first 4,096, its body is
-- at most eight bytes, and read again without checks it is the same.
use Prim.Native.Nat.{ℕ, zero, suc, ◌+◌, ◌≤◌, ◌<◌}
use mathlib.Core.Path.{◌≡◌, refl}
use mathlib.Core.Bool.{Bool, true, false, ◌||◌, true≢false}
use mathlib.Core.List.{List}
use native.Mathlib.Omega.{arith}
use borrow.Author.Tests.{le-ltb, lt-leb, ltb-false, leb-false, eqb-true, not-false}
use lib.Dec.{eqb}
use lib.ListN.{length}
use Rattle.base.proofs.Checks.{passed, FirstAt, number_at, first_at_lem}
use Rattle.camac.specs.Words.{command_in, camac_fault, decoded_by, decode_of}
use Rattle.camac.specs.declared.words.Command.{Command}
use Rattle.listfile.specs.Fields.{body_length, next_field, tag_at, first_at, second_at, wrong_length, head_checks, head_fault, carried_by, body_of, after_head, field_of}
use Rattle.listfile.specs.model.Table.{instruction_by, instruction_at, read_by}
use Rattle.listfile.specs.declared.field.Instruction.{Instruction}
use Rattle.listfile.specs.declared.field.Instruction.TheVariants.{Camac}
use Rattle.std.specs.Prelude.{Ok, Err}
use Rattle.listfile.specs.declared.field.Tag.{Tag}
use Rattle.listfile.specs.declared.field.Tag.TheVariants.{CamacTag, JumpTag, LiteralTag, HaltTag, UnknownTag}

-- A field's answer ---------------------------------------------------------------------------------------------------------

-- where the checks of the head before place k fail and the one there holds
pub field_refused : (list : List ℕ) (at count k : ℕ) → FirstAt k (head_checks list at count) → ¬ (number_at k (head_checks list at count) ≡ 0)
    → Err (number_at k (head_checks list at count)) ≡ field_of list at count
unfolding field_of head_fault
field_refused list at count k f h = rw (first_at_lem k (head_checks list at count) f) (go (number_at k (head_checks list at count)) h)
  where
    go : (n : ℕ) → ¬ (n ≡ 0) → Err n ≡ after_head n (body_of (tag_at list at) list at)
    go zero h = absurd (h refl)
    go (suc n) h = refl

-- where the field lies in the list and is one of the first 4,096, its tag decides
pub field_inside : (list : List ℕ) (at count : ℕ) → next_field list at ≤ length list → count < 4096
    → read_by (tag_at list at) list at ≡ field_of list at count
unfolding field_of head_fault
field_inside list at count h l =
    rw (le-ltb (length list) (at + 3) (omega arith), le-ltb (length list) (next_field list at) h, lt-leb 4096 count l)

pub longwords_least : (len : ℕ) → (eqb len 4 || eqb len 8) ≡ true → 4 ≤ len
longwords_least len h = go (eqb len 4) refl h
  where
    go : (b : Bool) → eqb len 4 ≡ b → b || eqb len 8 ≡ true → 4 ≤ len
    go true q h = omega (arith, eqb-true len 4 q)
    go false q h = omega (arith, eqb-true len 8 h)

-- What a field that is read shows ------------------------------------------------------------------------------------------

length_small : (tag : Tag) (len : ℕ) → wrong_length tag len ≡ false → len ≤ 8
length_small CamacTag len e = go (eqb len 4) refl (not-false _ e)
  where
    go : (b : Bool) → eqb len 4 ≡ b → b || eqb len 8 ≡ true → len ≤ 8
    go true q h = omega (arith, eqb-true len 4 q)
    go false q h = omega (arith, eqb-true len 8 h)
length_small JumpTag len e = omega (arith, eqb-true len 2 (not-false _ e))
length_small LiteralTag len e = omega (arith, eqb-true len 4 (not-false _ e))
length_small HaltTag len e = omega (arith, eqb-true len 0 (not-false _ e))
length_small UnknownTag len e = absurd (true≢false e)

pub record Lies (list : List ℕ) (at count : ℕ) : Type 0 where
  pub inside : at + 3 + body_length list at ≤ length list
  pub few : count < 4096
  pub short : body_length list at ≤ 8
  pub right : wrong_length (tag_at list at) (body_length list at) ≡ false

pub read_head : (list : List ℕ) (at count : ℕ) (i : Instruction) → field_of list at count ≡ Ok i
    → head_fault list at count ≡ 0
unfolding field_of
read_head list at count i e = go (head_fault list at count) e
  where
    go : (f : ℕ) → after_head f (body_of (tag_at list at) list at) ≡ Ok i → f ≡ 0
    go zero e = refl
    go (suc f) e = let z : ◌≡◌ {A = ℕ} 0 1 = cc in absurd (omega arith)

pub field_lies : (list : List ℕ) (at count : ℕ) (i : Instruction) → field_of list at count ≡ Ok i → Lies list at count
unfolding head_fault
field_lies list at count i e =
    let c = passed (head_checks list at count) (omega arith) (read_head list at count i e) in
    record {
      inside = ltb-false (length list) (next_field list at) c.1.0;
      few = leb-false 4096 count c.1.1.0;
      short = length_small (tag_at list at) (body_length list at) c.1.1.1.1.0;
      right = c.1.1.1.1.0;
    }

body_again : (tag : Tag) (list : List ℕ) (at : ℕ) (i : Instruction) → body_of tag list at ≡ Ok i
    → i ≡ instruction_by tag list at
unfolding body_of instruction_by decode_of
body_again CamacTag list at i e =
    go (camac_fault (body_length list at) (first_at list at) (second_at list at))
    (command_in (first_at list at) (second_at list at)) e
  where
    go : (f : ℕ) (c : Command) → carried_by (decoded_by f c) ≡ Ok i → i ≡ Camac c
    go zero c e = cc
    go (suc f) c e = let z : ◌≡◌ {A = ℕ} 0 1 = cc in absurd (omega arith)
body_again JumpTag list at i e = cc
body_again LiteralTag list at i e = cc
body_again HaltTag list at i e = cc
body_again UnknownTag list at i e = let z : ◌≡◌ {A = ℕ} 0 1 = cc in absurd (omega arith)

pub read_again : (list : List ℕ) (at count : ℕ) (i : Instruction) → field_of list at count ≡ Ok i
    → i ≡ instruction_at list at
unfolding field_of instruction_at
read_again list at count i e = go (head_fault list at count) e
  where
    go : (f : ℕ) → after_head f (body_of (tag_at list at) list at) ≡ Ok i → i ≡ instruction_by (tag_at list at) list at
    go zero e = body_again (tag_at list at) list at i e
    go (suc f) e = let z : ◌≡◌ {A = ℕ} 0 1 = cc in absurd (omega arith)
