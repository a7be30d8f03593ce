-- The run along jumps and literals with marks beside a spot: each visit is one of `run_on` for every record that has those marks, and the
-- rest of the walk grows shorter. The first byte of a field that passed its checks tells its kind.
use Prim.Native.Nat.{ℕ, ◌+◌, ◌≤◌, ◌<◌}
use mathlib.Core.Path.{◌≡◌, refl, sym, ap, ◌∙◌, subst}
use mathlib.Core.Logic.{◌⊎◌, inl, inr, ⊎_elim}
use mathlib.Core.Bool.{Bool, true, false, true≢false}
use mathlib.Core.List.{List}
use native.Mathlib.Omega.{arith}
use borrow.Author.Tests.{eqb-true, not-false}
use lib.Dec.{eqb}
use lib.ListN.{length, get_or}
use Rattle.base.specs.Bytes.{byte_at, short_at, long_at}
use Rattle.std.specs.Prelude.{if◌then◌else◌, Some}
use Rattle.camac.specs.Words.{command_in, words_of}
use Rattle.camac.specs.model.Bits as bits
use Rattle.camac.specs.declared.words.Direction.TheVariants.{Incoming}
use Rattle.packing.specs.Packing.{mark_after, stored}
use Rattle.packing.specs.declared.Marks.{Marks}
use Rattle.listfile.specs.Fields.{body_length, tag_of, tag_at, first_at, second_at, wrong_length}
use Rattle.listfile.specs.model.Table.{instruction_by, instruction_at, FieldPassed, TableRight}
use Rattle.listfile.specs.declared.field.Instruction.{Instruction}
use Rattle.listfile.specs.declared.field.Instruction.TheVariants.{Camac, Jump, Literal, Halt}
use Rattle.listfile.specs.declared.field.Tag.{Tag}
use Rattle.listfile.specs.declared.field.Tag.TheVariants.{CamacTag, JumpTag, LiteralTag, HaltTag, UnknownTag}
use Rattle.listfile.proofs.FieldLaws.{Lies, field_lies}
use Rattle.walk.specs.Walk.{spot_after, jump_to, moved_by}
use Rattle.walk.specs.model.Sums.{rest_from}
use Rattle.walk.specs.declared.visits.Spot.{Spot}
use Rattle.reply.specs.Effect.{zero_record, with_marks, run_on, state_of}
use Rattle.take.specs.model.Here.{RoomFor, advance_run, advance_buffer}
use Rattle.reply.specs.declared.records.Record.{Record}
use Rattle.take.specs.declared.Advance.TheVariants.{On}
use Rattle.step.specs.model.Onward.{Going}
use Rattle.step.proofs.Onward.{within, room_here, onward}
use Rattle.whole_run.specs.model.Along.{Ahead, Tabled, AtCommand}
use Rattle.whole_run.specs.declared.along.Opening.{Opening}

-- A field by its first byte --------------------------------------------------------------------------------------------------

-- a tag with a right length is one of four bytes
known_byte : (byte len : ℕ) → wrong_length (tag_of byte) len ≡ false → (byte ≡ 0x10) ⊎ ((byte ≡ 0x20) ⊎ ((byte ≡ 0x21) ⊎ (byte ≡ 0x2F)))
known_byte byte len = go (eqb byte 0x10) (eqb byte 0x20) (eqb byte 0x21) (eqb byte 0x2F) refl refl refl refl
  where
    go : (camac jump literal halt : Bool) → eqb byte 0x10 ≡ camac → eqb byte 0x20 ≡ jump → eqb byte 0x21 ≡ literal → eqb byte 0x2F ≡ halt
        → wrong_length (if camac then CamacTag else if jump then JumpTag else if literal then LiteralTag else if halt then HaltTag else UnknownTag) len ≡ false
        → (byte ≡ 0x10) ⊎ ((byte ≡ 0x20) ⊎ ((byte ≡ 0x21) ⊎ (byte ≡ 0x2F)))
    go true jump literal halt p q r s e = inl (eqb-true byte 0x10 p)
    go false true literal halt p q r s e = inr (inl (eqb-true byte 0x20 q))
    go false false true halt p q r s e = inr (inr (inl (eqb-true byte 0x21 r)))
    go false false false true p q r s e = inr (inr (inr (eqb-true byte 0x2F s)))
    go false false false false p q r s e = absurd (true≢false e)

pub by_tag : (list : List ℕ) (place : ℕ) {t : Tag} → tag_at list place ≡ t → instruction_at list place ≡ instruction_by t list place
unfolding instruction_at
by_tag list place e = ap (λ (t : Tag). instruction_by t list place) e

pub field_passed : (list table : List ℕ) (n k place : ℕ) → TableRight list table n → k < n → place ≡ get_or table k 0 → FieldPassed list place
field_passed list table n k place right h e = subst (FieldPassed list) (sym (right.entry k h) ∙ sym e) (right.passed k h)

-- from one spot of the walk to the next
pub record Passes (list : List ℕ) (n : ℕ) (k : Spot) (m : Marks) (b : List ℕ) (j : Spot) (m' : Marks) (b' : List ℕ) : Type 0 where
  pub ahead : Ahead list n j m' b'
  pub less : length (rest_from list n j) < length (rest_from list n k)
  pub goes : (r : Record) (out : List ℕ)
      → run_on (rest_from list n k) (state_of (with_marks m r) b out) ≡ run_on (rest_from list n j) (state_of (with_marks m' r) b' out)

-- at a spot of the walk, whose field the table has at a place
pub record Here (list table : List ℕ) (n : ℕ) (k : Spot) (place : ℕ) (m : Marks) (b : List ℕ) : Type 0 where
  pub right : TableRight list table n
  pub is : place ≡ get_or table k.instruction 0
  pub ahead : Ahead list n k m b

module _ {list table : List ℕ} {n : ℕ} {k : Spot} {place : ℕ} {m : Marks} {b : List ℕ} (h : Here list table n k place m b) where
  pub field : FieldPassed list place
  field = field_passed list table n k.instruction place h.right (within list n k h.ahead.on) h.is

  lies : Lies list place field.count
  lies = field_lies list place field.count (instruction_at list place) field.read

  pub inside : place + 3 ≤ length list
  inside = omega (arith, lies.inside)

  pub tagged : {byte : ℕ} → get_or list place 0 ≡ byte → tag_at list place ≡ tag_of byte
  unfolding byte_at
  tagged e = ap tag_of e

  known : (get_or list place 0 ≡ 0x10) ⊎ ((get_or list place 0 ≡ 0x20) ⊎ ((get_or list place 0 ≡ 0x21) ⊎ (get_or list place 0 ≡ 0x2F)))
  unfolding byte_at
  known = known_byte (get_or list place 0) (body_length list place) lies.right

  -- a CAMAC instruction has the least byte of the four, and a literal what no other has
  pub camac_tag : get_or list place 0 < 0x20 → tag_at list place ≡ CamacTag
  camac_tag l = ⊎_elim (λ e. tagged e) (⊎_elim (λ e. absurd (omega arith)) (⊎_elim (λ e. absurd (omega arith)) (λ e. absurd (omega arith)))) known

  pub literal_tag : 0x20 ≤ get_or list place 0 → ¬ (get_or list place 0 ≡ 0x2F) → ¬ (get_or list place 0 ≡ 0x20) → tag_at list place ≡ LiteralTag
  literal_tag l x y = ⊎_elim (λ e. absurd (omega arith)) (⊎_elim (λ e. absurd (y e)) (⊎_elim (λ e. tagged e) (λ e. absurd (x e)))) known

  here_too : instruction_at list (get_or table k.instruction 0) ≡ instruction_at list place
  here_too = ap (instruction_at list) (sym h.is)

  pub at_halt : tag_at list place ≡ HaltTag → instruction_at list (get_or table k.instruction 0) ≡ Halt
  unfolding instruction_by
  at_halt t = here_too ∙ by_tag list place t

  pub at_command : tag_at list place ≡ CamacTag → (first words : ℕ) → (first ≡ first_at list place) × bits.Passes first
      → words ≡ words_of (command_in first (second_at list place)).transfer
      → AtCommand (instruction_at list (get_or table k.instruction 0)) first words
  unfolding instruction_by
  at_command t first words p w = record {
    second = second_at list place;
    passes = p.1;
    is = here_too ∙ by_tag list place t ∙ ap (λ (x : ℕ). Camac (command_in x (second_at list place))) (sym p.0);
    wanted = w;
  }

  going : (r : Record) → Going list n k (with_marks m r) b
  going r = record { on = h.ahead.on; room = h.ahead.room }

  passes : (i : Instruction) → i ≡ instruction_at list place → (j : Spot) (m' : Marks) (b' : List ℕ)
      → ((r : Record) → advance_run i k (with_marks m r) ≡ On j (with_marks m' r))
      → ((r : Record) → b' ≡ advance_buffer i (with_marks m r) b)
      → Passes list n k m b j m' b'
  passes i ei j m' b' e eb =
      let at = onward list table n k place i h.right h.is ei _ b (going (zero_record false)) j _ b' (e (zero_record false)) (eb (zero_record false)) in
      record {
        ahead = record { on = at.0.on; room = at.0.room };
        less = at.1;
        goes = λ r out. (onward list table n k place i h.right h.is ei _ b (going r) j _ b' (e r) (eb r)).2 out;
      }

  pub over_jump : tag_at list place ≡ JumpTag → (target : ℕ) → target ≡ short_at list (place + 3) → (j : Spot) → j ≡ jump_to target k
      → Passes list n k m b j m b
  unfolding advance_run advance_buffer instruction_by
  over_jump t target e j ej =
      passes (Jump target) (ap Jump e ∙ sym (by_tag list place t)) j m b (λ r. rw ej refl) (λ r. refl)

  module _ (t : tag_at list place ≡ LiteralTag) where
    literal : instruction_at list place ≡ Literal (long_at list (place + 3))
    unfolding instruction_by
    literal = by_tag list place t

    pub literal_inside : place + 3 + 4 ≤ length list
    literal_inside =
        let right : wrong_length LiteralTag (body_length list place) ≡ false = rw t at lies.right in
        omega (arith, lies.inside, eqb-true (body_length list place) 4 (not-false _ right))

    pub literal_room : mark_after true m.incoming ≤ length b
    literal_room =
        let r = with_marks m (zero_record false) in
        subst (λ (x : Instruction). RoomFor x r b) literal (room_here list table n k place _ h.right h.is refl r b (going r))

    pub over_literal : (v : ℕ) → v ≡ long_at list (place + 3) → (j : Spot) → j ≡ spot_after k → (m' : Marks) → m' ≡ moved_by Incoming true m → (b' : List ℕ)
        → b' ≡ stored true v m.incoming b
        → Passes list n k m b j m' b'
    unfolding advance_run advance_buffer
    over_literal v e j ej m' em b' eb = passes (Literal v) (ap Literal e ∙ sym literal) j m' b' (λ r. rw (ej, em) refl) (λ r. eb)

-- from where a run set out to where it stands
pub record Came (list : List ℕ) (n : ℕ) (from : Spot) (first : Marks) (b₀ : List ℕ) (k : Spot) (m : Marks) (b : List ℕ) : Type 0 where
  pub ahead : Ahead list n k m b
  pub same_length : length b ≡ length b₀
  pub goes : (r : Record) → r.marks ≡ first → (out : List ℕ)
      → run_on (rest_from list n from) (state_of r b₀ out) ≡ run_on (rest_from list n k) (state_of (with_marks m r) b out)

module _ (list : List ℕ) (n : ℕ) (from : Spot) (first : Marks) (b₀ : List ℕ) where
  pub came_none : Ahead list n from first b₀ → Came list n from first b₀ from first b₀
  came_none a = record {
    ahead = a;
    same_length = refl;
    goes = λ r e out. ap (λ (m : Marks). run_on (rest_from list n from) (state_of (with_marks m r) b₀ out)) e;
  }

  pub came_on : {k j : Spot} {m m' : Marks} {b b' : List ℕ} → Came list n from first b₀ k m b → Passes list n k m b j m' b'
      → length b' ≡ length b
      → Came list n from first b₀ j m' b'
  came_on x y e = record {
    ahead = y.ahead;
    same_length = e ∙ x.same_length;
    goes = λ r f out. x.goes r f out ∙ y.goes r out;
  }

-- and the field there
pub here : {list table : List ℕ} {n : ℕ} {from k : Spot} {first m : Marks} {b₀ b : List ℕ} {place : ℕ} → Tabled list table n
    → place ≡ get_or table k.instruction 0 → Came list n from first b₀ k m b → Here list table n k place m b
here t e x = record { right = t.right; is = e; ahead = x.ahead }

-- the opening of a CAMAC instruction, as the code answers it
pub opens : {i : Instruction} {p : Opening} → AtCommand i p.first p.words → (o : Opening) → Some p ≡ Some o → AtCommand i o.first o.words
opens {i} {p} a o e = let same : p ≡ o = cc in subst (λ (x : Opening). AtCommand i x.first x.words) same a
