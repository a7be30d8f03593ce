-- One visit of the walk is one unrolling of `run_on`: by the visit's instruction the run goes on, with its marks moved, or stays there. So the walk
-- looks at marks, operations, status and note alone.
use Prim.Native.Nat.{ℕ}
use mathlib.Core.Path.{◌≡◌, refl, sym, ap}
use mathlib.Core.Bool.{true}
use mathlib.Core.List.{List, [], ◌∷◌}
use mathlib.Core.Option.{some}
use native.Mathlib.Omega.{arith}
use lib.ListN.{length}
use Rattle.camac.specs.declared.words.Direction.TheVariants.{Incoming}
use Rattle.qmodes.specs.declared.scan.ScanPosition.{ScanPosition}
use Rattle.packing.specs.Packing.{stored}
use Rattle.packing.proofs.MarkFacts.{stored_length}
use Rattle.listfile.specs.declared.field.Instruction.{Instruction}
use Rattle.listfile.specs.declared.field.Instruction.TheVariants.{Camac, Jump, Literal, Halt}
use Rattle.walk.specs.declared.visits.Spot.{Spot}
use Rattle.walk.specs.Walk.{Visit, next_of, moved_by, marks_after}
use Rattle.walk.proofs.Halting.{Halts}
use Rattle.reply.specs.Effect.{waits_for, ended_at, with_marks, put_literal, run_on, waiting, state_of}
use Rattle.take.specs.model.Here.{advance_run, advance_buffer}
use Rattle.reply.specs.declared.records.Record.{Record}
use Rattle.take.specs.declared.Advance.TheVariants.{On, At}

-- a visit that the run goes on from, to spot j with record `after`
pub record Went (v : Visit) (r : Record) (incoming : List ℕ) (j : Spot) (after : Record) : Type 0 where
  pub next : next_of v.instruction v.spot ≡ some j
  pub same : after ≡ with_marks (marks_after v.instruction r.marks) r
  pub goes :
      (vs : List Visit) (outgoing : List ℕ)
      → run_on (v ∷ vs) (state_of r incoming outgoing) ≡ run_on vs (state_of after (advance_buffer v.instruction r incoming) outgoing)

abbrev visit_of : Spot → ℕ → Instruction → Visit
visit_of k place i = record { spot = k; place = place; instruction = i }

went_by :
    (i : Instruction) (k : Spot) (place : ℕ) (r : Record) (incoming : List ℕ) (j : Spot) (after : Record)
    → advance_run i k r ≡ On j after → Went (visit_of k place i) r incoming j after
unfolding advance_run advance_buffer run_on put_literal marks_after
went_by (Camac c) k place r incoming j after e = let z : ◌≡◌ {A = ℕ} 0 1 = cc in absurd (omega arith)
went_by (Jump target) k place r incoming j after e =
    let q : r ≡ after = cc in
    record {
      next = ap some (cc);
      same = sym q;
      goes = λ vs outgoing. ap (λ (x : Record). run_on vs (state_of x incoming outgoing)) q;
    }
went_by (Literal v) k place r incoming j after e =
    let q : with_marks (moved_by Incoming true r.marks) r ≡ after = cc in
    record {
      next = ap some (cc);
      same = sym q;
      goes = λ vs outgoing. ap (λ (x : Record). run_on vs (state_of x (stored true v r.marks.incoming incoming) outgoing)) q;
    }
went_by Halt k place r incoming j after e = let z : ◌≡◌ {A = ℕ} 0 1 = cc in absurd (omega arith)

pub went :
    (v : Visit) (r : Record) (incoming : List ℕ) (j : Spot) (after : Record)
    → advance_run v.instruction v.spot r ≡ On j after → Went v r incoming j after
went v r incoming j after e = went_by v.instruction v.spot v.place r incoming j after e

stays_by :
    (i : Instruction) (k : Spot) (place : ℕ) (r : Record) (incoming : List ℕ) (after : Record) → advance_run i k r ≡ At after
    → (vs : List Visit) (outgoing : List ℕ)
    → run_on (visit_of k place i ∷ vs) (state_of r incoming outgoing) ≡ state_of after (advance_buffer i r incoming) outgoing
unfolding advance_run advance_buffer run_on
stays_by (Camac c) k place r incoming after e vs outgoing =
    let q : waits_for k c r ≡ after = cc in ap (λ (x : Record). state_of x incoming outgoing) q
stays_by (Jump target) k place r incoming after e vs outgoing = let z : ◌≡◌ {A = ℕ} 0 1 = cc in absurd (omega arith)
stays_by (Literal v) k place r incoming after e vs outgoing = let z : ◌≡◌ {A = ℕ} 0 1 = cc in absurd (omega arith)
stays_by Halt k place r incoming after e vs outgoing =
    let q : ended_at k 0 r ≡ after = cc in ap (λ (x : Record). state_of x incoming outgoing) q

-- a visit at which the run waits or ends
pub stays :
    (v : Visit) (r : Record) (incoming : List ℕ) (after : Record) → advance_run v.instruction v.spot r ≡ At after
    → (vs : List Visit) (outgoing : List ℕ)
    → run_on (v ∷ vs) (state_of r incoming outgoing) ≡ state_of after (advance_buffer v.instruction r incoming) outgoing
stays v r incoming after e vs outgoing = stays_by v.instruction v.spot v.place r incoming after e vs outgoing

pub advance_length : (i : Instruction) (r : Record) (incoming : List ℕ) → length (advance_buffer i r incoming) ≡ length incoming
unfolding advance_buffer
advance_length (Camac c) r incoming = refl
advance_length (Jump target) r incoming = refl
advance_length (Literal v) r incoming = stored_length true v r.marks.incoming incoming
advance_length Halt r incoming = refl

-- a record that waits on, with whatever left, is gone on from as it was
module _ (left tries : ℕ) (p : ScanPosition) where
  pub runs_alike : (vs : List Visit) → Halts vs → (r : Record) (b out : List ℕ) → run_on vs (state_of r b out) ≡ run_on vs (state_of (waiting left tries p r) b out)
  unfolding run_on waits_for ended_at put_literal waiting
  runs_alike [] h r b out = absurd h
  runs_alike (v ∷ vs) h r b out = at v.instruction h (runs_alike vs)
    where
      at : (i : Instruction) → Halts (visit_of v.spot v.place i ∷ vs)
          → (Halts vs → (r : Record) (b out : List ℕ) → run_on vs (state_of r b out) ≡ run_on vs (state_of (waiting left tries p r) b out))
          → run_on (visit_of v.spot v.place i ∷ vs) (state_of r b out) ≡ run_on (visit_of v.spot v.place i ∷ vs) (state_of (waiting left tries p r) b out)
      at (Camac c) h ih = refl
      at (Jump target) h ih = ih h r b out
      at (Literal x) h ih = ih h (with_marks (moved_by Incoming true r.marks) r) (stored true x r.marks.incoming b) out
      at Halt h ih = refl
