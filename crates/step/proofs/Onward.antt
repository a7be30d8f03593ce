-- One visit along the rest of the walk, by the table: the run goes on from one instruction to the next with its room kept, or it has
-- arrived. The rest from an instruction on begins with that instruction, which the table has.
use Prim.Native.Nat.{ℕ, ◌<◌}
use mathlib.Core.Path.{◌≡◌, refl, sym, ap, ◌∙◌, subst}
use mathlib.Core.Logic.{◌⊎◌, inl, inr}
use mathlib.Core.Bool.{Bool, true, false}
use mathlib.Core.List.{List, ◌∷◌}
use mathlib.Core.Option.{some}
use native.Mathlib.Omega.{arith}
use borrow.Author.Tests.{leb-true, leb-false}
use lib.Dec.{leb}
use lib.ListN.{length, get_or}
use Rattle.camac.specs.declared.words.Command.{Command}
use Rattle.listfile.specs.Fields.{Field}
use Rattle.listfile.specs.model.Table.{instruction_at, first_fields, TableRight}
use Rattle.listfile.specs.declared.field.Instruction.{Instruction}
use Rattle.listfile.specs.declared.field.Instruction.TheVariants.{Camac, Jump, Literal, Halt}
use Rattle.walk.specs.Walk.{spot_after, Visit, visit, field_at, marks_after, marks_over}
use Rattle.walk.specs.model.Sums.{rest_from}
use Rattle.walk.proofs.Halting.{none_some, same_some}
use Rattle.walk.proofs.MarksGrow.{over_grows}
use Rattle.walk.proofs.Rest.{OnWalk, headed, rest_next}
use Rattle.walk.proofs.TableFields.{field_past, field_here}
use Rattle.reply.specs.Effect.{State, ended_at, waits_for, run_on, state_of}
use Rattle.calls.specs.Calls.{no_operation, operation_of}
use Rattle.take.specs.model.Here.{resumed, RoomFor, advance_run, advance_buffer}
use Rattle.reply.specs.declared.records.Record.{Record}
use Rattle.take.specs.declared.Taken.{Taken}
use Rattle.take.specs.declared.Taken.TheVariants.{Same, Through, Ended}
use Rattle.take.specs.declared.Advance.TheVariants.{On, At}
use Rattle.take.proofs.Onward.{went, stays, advance_length}
use Rattle.step.specs.model.Onward.{Going, record_in, GoingBy, operation_at, wanted_by}
use Rattle.walk.specs.declared.visits.Spot.{Spot}

pub within : (list : List ℕ) (n : ℕ) (k : Spot) → OnWalk list n k → k.instruction < n
within list n k o = go (leb n k.instruction) refl
  where
    go : (b : Bool) → leb n k.instruction ≡ b → k.instruction < n
    go true e = let h = headed o.walk in none_some h.field (sym (field_past list n k.instruction (leb-true n k.instruction e)) ∙ h.known)
    go false e = leb-false n k.instruction e

-- the rest of the walk from an instruction that the table has
pub record Begins (list : List ℕ) (n : ℕ) (k : Spot) (at : ℕ) (i : Instruction) : Type 0 where
  pub known : field_at (first_fields list n) k.instruction ≡ some (record { place = at; instruction = i })
  pub rest : List Visit
  pub same : rest_from list n k ≡ visit k (record { place = at; instruction = i }) ∷ rest

pub begins : (list table : List ℕ) (n : ℕ) (k : Spot) (at : ℕ) (i : Instruction) → TableRight list table n → at ≡ get_or table k.instruction 0
    → i ≡ instruction_at list at → OnWalk list n k → Begins list n k at i
begins list table n k at i right ea ei o =
    let h = headed o.walk in
    let known = field_here list table n k.instruction at i (within list n k o) right ea ei in
    record { known = known; rest = h.rest; same = h.same ∙ ap (λ (f : Field). visit k f ∷ h.rest) (same_some h.known known) }

module _ (list table : List ℕ) (n : ℕ) (k : Spot) (at : ℕ) (i : Instruction) (right : TableRight list table n) (ea : at ≡ get_or table k.instruction 0)
    (ei : i ≡ instruction_at list at) (r : Record) (b : List ℕ) (g : Going list n k r b) where
  here : Begins list n k at i
  here = begins list table n k at i right ea ei g.on

  pub room_here : RoomFor i r b
  unfolding marks_over marks_after
  room_here = go i here.rest (ap (λ (vs : List Visit). (marks_over vs r.marks).incoming) here.same)
    where
      go : (i : Instruction) (vs : List Visit) → (marks_over (rest_from list n k) r.marks).incoming
          ≡ (marks_over vs (marks_after i r.marks)).incoming → RoomFor i r b
      go (Camac c) vs e = tt
      go (Jump t) vs e = tt
      go (Literal v) vs e = omega (arith, e, g.room, (over_grows vs (marks_after (Literal v) r.marks)).incoming)
      go Halt vs e = tt

  pub onward : (j : Spot) (r' : Record) (b' : List ℕ) → advance_run i k r ≡ On j r' → b' ≡ advance_buffer i r b
      → (Going list n j r' b') × (length (rest_from list n j) < length (rest_from list n k))
      × ((out : List ℕ) → run_on (rest_from list n k) (state_of r b out) ≡ run_on (rest_from list n j) (state_of r' b' out))
  unfolding marks_over
  onward j r' b' e eb =
      let w = went (visit k (record { place = at; instruction = i })) r b j r' e in
      let x = rest_next list n k j g.on here.known w.next in
      let marks : r'.marks ≡ marks_after i r.marks = ap (λ (y : Record). y.marks) w.same in (
        record { on = x.0; room = rw (eb, advance_length i r b, marks) (rw x.1 at g.room) },
        rw x.1 (omega arith),
        λ out. rw (x.1, eb) (w.goes (rest_from list n j) out),
      )

  pub arrived : (r' : Record) (b' : List ℕ) → advance_run i k r ≡ At r' → b' ≡ advance_buffer i r b
      → (out : List ℕ) → state_of r' b' out ≡ run_on (rest_from list n k) (state_of r b out)
  arrived r' b' e eb out =
      sym (ap (λ (vs : List Visit). run_on vs (state_of r b out)) here.same
      ∙ stays (visit k (record { place = at; instruction = i })) r b r' e here.rest out
      ∙ ap (λ (x : List ℕ). state_of r' x out) (sym eb))

-- the record says at which spot
pub arrived_at : (i : Instruction) (k : Spot) (r r' : Record) → advance_run i k r ≡ At r' → r'.spot ≡ k
unfolding advance_run waits_for ended_at
arrived_at (Camac c) k r r' e = let same : waits_for k c r ≡ r' = cc in ap (λ (x : Record). x.spot) (sym same)
arrived_at (Jump target) k r r' e = let z : ◌≡◌ {A = ℕ} 0 1 = cc in absurd (omega arith)
arrived_at (Literal v) k r r' e = let z : ◌≡◌ {A = ℕ} 0 1 = cc in absurd (omega arith)
arrived_at Halt k r r' e = let same : ended_at k 0 r ≡ r' = cc in ap (λ (x : Record). x.spot) (sym same)

-- Behind the last word -------------------------------------------------------------------------------------------------------

pub through_going : (list : List ℕ) (n : ℕ) (t : Taken) (r : Record) (b : List ℕ) → t ≡ Through r → GoingBy list n t b
    → Going list n (spot_after r.spot) r b
through_going list n t r b e g = subst (λ (x : Taken). GoingBy list n x b) e g

module _ (rest : Spot → List Visit) (t : Taken) (r : Record) (b out : List ℕ) where
  pub resumed_kept : (t ≡ Same r) ⊎ (t ≡ Ended r) → state_of r b out ≡ resumed (rest (spot_after (record_in t).spot)) t b out
  resumed_kept (inl e) = rw e refl
  resumed_kept (inr e) = rw e refl

  pub resumed_through : t ≡ Through r → (s : State) → s ≡ run_on (rest (spot_after r.spot)) (state_of r b out)
      → s ≡ resumed (rest (spot_after (record_in t).spot)) t b out
  resumed_through e s h = rw e h

-- The operation wanted -------------------------------------------------------------------------------------------------------

module _ (list table : List ℕ) (r : Record) (out : List ℕ) where
  pub wanted_ended : r.ended ≡ true → no_operation ≡ wanted_by list table r out
  unfolding wanted_by
  wanted_ended e = rw e refl

  pub wanted_camac : r.ended ≡ false → (c : Command) → instruction_at list (get_or table r.spot.instruction 0) ≡ Camac c
      → operation_of c r out ≡ wanted_by list table r out
  unfolding wanted_by
  wanted_camac waits c e = rw (e, waits)

  -- where no CAMAC instruction stands
  module _ (waits : r.ended ≡ false) (i : Instruction) (ei : i ≡ instruction_at list (get_or table r.spot.instruction 0)) where
    wanted_at_lem : operation_at i r out ≡ wanted_by list table r out
    unfolding wanted_by
    wanted_at_lem = rw (← ei, waits)

    pub wanted_none : ((c : Command) → i ≡ Camac c → ⊥) → no_operation ≡ wanted_by list table r out
    wanted_none k = by i k ∙ wanted_at_lem
      where
        by : (i : Instruction) → ((c : Command) → i ≡ Camac c → ⊥) → no_operation ≡ operation_at i r out
        by (Camac c) k = absurd (k c refl)
        by (Jump target) k = refl
        by (Literal v) k = refl
        by Halt k = refl
