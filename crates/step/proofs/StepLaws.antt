-- What start and step yield, in the order of the code's tests: each refusal, and the reply taken at the operation with the walk behind it
-- where it is through. A record that is left has ended or fits, so that its wanted operation is the table's.
use Prim.Native.Nat.{ℕ, ◌+◌}
use mathlib.Core.Path.{◌≡◌, refl, sym, ap, ap₂, ◌∙◌, subst}
use mathlib.Core.Logic.{◌⊎◌}
use mathlib.Core.Bool.{true, false}
use mathlib.Core.List.{List}
use mathlib.Core.Option as maybe
use lib.ListN.{length}
use Rattle.camac.specs.declared.words.Command.{Command}
use Rattle.base.specs.Bytes.{Bytes}
use Rattle.std.specs.Prelude.{Result, Ok, Err, IsErrAnd}
use Rattle.base.specs.Refusals.{not_refused, told}
use Rattle.base.specs.declared.refusals.Refused.{Refused}
use Rattle.listfile.specs.declared.check.Sizes.{Sizes}
use Rattle.walk.specs.Walk.{first_spot, spot_after}
use Rattle.walk.specs.Admission.{Plan, Prepared, ready, prepare}
use Rattle.walk.specs.model.Sums.{rest_from, plan_by, prepared_by, PlannedBy}
use Rattle.walk.specs.declared.Planned.{Planned}
use Rattle.walk.specs.declared.worst.Counts.{Counts}
use Rattle.reply.specs.Replies.{reply_of}
use Rattle.reply.specs.Effect.{State, run_on, state_of, zero_record}
use Rattle.calls.specs.Fit.{fits}
use Rattle.calls.specs.Calls.{Called, refused_call, taken_call, begun, start_prepared, start_of, take_at, step_reply, step_prepared, step_of, refused_record, operation_or_none, Yields}
use Rattle.take.specs.model.Here.{Ready, here_run, here_buffer, resumed}
use Rattle.reply.specs.declared.records.Record.{Record}
use Rattle.reply.specs.declared.replies.Reply.{Reply}
use Rattle.calls.specs.declared.operations.Operation.{Operation}
use Rattle.calls.specs.declared.Yield.{Yield}
use Rattle.take.specs.declared.Taken.{Taken}
use Rattle.take.specs.declared.Taken.TheVariants.{Same, Through, Ended}
use Rattle.take.proofs.TakeHere.{take_here, through}
use Rattle.walk.specs.declared.visits.Spot.{Spot}
use Rattle.worst_count.proofs.FitKept.{FitKept, fit_begun, fit_kept}
use Rattle.step.specs.model.Onward.{PreparedFor, Going, record_in, GoingBy, Askable, Waiting, wanted_by}
use Rattle.step.specs.model.Place.{Alive}
use Rattle.step.proofs.PlanLaws.{sound, taken_at, ready_here, going_next, askable, at_command, wanted_by_lem}

-- A reply, as code takes it -------------------------------------------------------------------------------------------------

module _ (list table : List ℕ) (s : Sizes) (counts : Counts) (i o : ℕ) (x : PreparedFor list table s counts i o) (r : Record) (c : Command)
    (a : Alive (plan_by list s) c r) (reply : Reply) where
  -- where it is through it has room for the rest of the walk
  pub taken_going : (t : Taken) (b : List ℕ) → t ≡ here_run s.limit c reply r → length b ≡ i → GoingBy list s.count t b
  taken_going (Same y) b e n = tt
  taken_going (Through y) b e n =
      let p = through s.limit c reply r y (sym e) in
      subst (λ (k : Spot). Going list s.count (spot_after k) y b) (sym p.spot)
      (going_next list table s counts i o x r c a.rest a.waits a.fit y b p.marks n)
  taken_going (Ended y) b e n = tt

  -- where the next instruction is asked for, it is the one behind
  same_rest : (t : Taken) (b out : List ℕ) → t ≡ here_run s.limit c reply r
      → resumed (rest_from list s.count (spot_after r.spot)) t b out ≡ resumed (rest_from list s.count (spot_after (record_in t).spot)) t b out
  same_rest (Same y) b out e = refl
  same_rest (Through y) b out e =
      ap (λ (k : Spot). run_on (rest_from list s.count (spot_after k)) (state_of y b out)) (sym (through s.limit c reply r y (sym e)).spot)
  same_rest (Ended y) b out e = refl

  pub taken_resumed : (incoming : List ℕ) (t : Taken) (b out : List ℕ) → t ≡ here_run s.limit c reply r → b ≡ here_buffer s.limit c reply r incoming
      → take_at (plan_by list s) reply (state_of r incoming out) ≡ resumed (rest_from list s.count (spot_after (record_in t).spot)) t b out
  taken_resumed incoming t b out et eb =
      taken_at list table s counts i o x r c a.rest a.waits reply incoming out
      ∙ take_here s.limit (rest_from list s.count (spot_after r.spot)) c reply r incoming out
      ∙ ap₂ (λ (y : Taken) (l : List ℕ). resumed (rest_from list s.count (spot_after r.spot)) y l out) (sym et) (sym eb)
      ∙ same_rest t b out et

-- A call's answer, and the preparation ---------------------------------------------------------------------------------------

module _ {called : Called} {kept : Record} {b out : List ℕ} where
  pub yields_err : {q : Refused} → called ≡ refused_call (told q) (state_of kept b out) → Yields called kept (Err q) b out
  yields_err e = rw e (record { refusal = refl; run = refl; wanted = refl; incoming_bytes = refl; outgoing_bytes = refl })

  pub yields_ok : {y : Yield} {r : Record} {wanted : Operation} → y.run ≡ r → operation_or_none y.wanted ≡ wanted
      → called ≡ record { refusal = not_refused; wanted = wanted; state = state_of r b out } → Yields called kept (Ok y) b out
  yields_ok er ew e = rw e (record { refusal = refl; run = er; wanted = ew; incoming_bytes = refl; outgoing_bytes = refl })

  pub yields_by : {y : Result Yield Refused} {called' : Called} → called' ≡ called → Yields called kept y b out → Yields called' kept y b out
  yields_by {y = y} e h = subst (λ (c : Called). Yields c kept y b out) (sym e) h

module _ {called : Called} {kept : Record} {b out : List ℕ} where
  -- a refusal passed on
  pub yields_passed : {y : Result Yield Refused} (q : Refused) → IsErrAnd y (λ r. r ≡ q)
      → called ≡ refused_call (told q) (state_of kept b out) → Yields called kept y b out
  yields_passed {y = Ok x} q h e = absurd h
  yields_passed {y = Err r} q h e = yields_err (e ∙ ap (λ (q : Refused). refused_call (told q) (state_of kept b out)) (sym h))

module _ (list : List ℕ) (i o : ℕ) (p : Result Planned Refused) (ep : prepare list i o ≡ prepared_by list p) where
  pub prepared_ready : (table : List ℕ) → PlannedBy list table p → (q : Planned) → p ≡ Ok q → Bytes list
      → length table ≡ 4096
      → PreparedFor list table q.sizes q.counts i o
  prepared_ready table t q e bytes n = record {
    bytes = bytes;
    entries = n;
    planned = subst (λ (y : Result Planned Refused). PlannedBy list table y) e t;
    prepared = ep ∙ ap (prepared_by list) e;
  }

module _ (list incoming outgoing : List ℕ) (p : Result Planned Refused) (ep : prepare list (length incoming) (length outgoing) ≡ prepared_by list p)
    (q : Refused) (e : p ≡ Err q) where
  pub start_refused : start_of list incoming outgoing ≡ refused_call (told q) (state_of refused_record incoming outgoing)
  unfolding start_of
  start_refused = ap (λ (y : Prepared). start_prepared y incoming outgoing) (ep ∙ ap (prepared_by list) e)

  pub step_refused : (r : Record) (reply : List ℕ)
      → step_of list (state_of r incoming outgoing) reply ≡ refused_call (told q) (state_of r incoming outgoing)
  unfolding step_of
  step_refused r reply = ap (λ (y : Prepared). step_prepared y reply (state_of r incoming outgoing)) (ep ∙ ap (prepared_by list) e)

-- a reply's bytes taken at an operation, as code takes them
pub record Took (limit : ℕ) (c : Command) (r : Record) (reply incoming : List ℕ) (answer : Reply) (taken : Taken) (b : List ℕ) : Type 0 where
  pub formed : reply_of reply ≡ maybe.some answer
  pub run : taken ≡ here_run limit c answer r
  pub bytes : b ≡ here_buffer limit c answer r incoming
  pub same_length : length b ≡ length incoming

pub took : {limit : ℕ} {c : Command} {r : Record} {reply incoming : List ℕ} {answer : Reply} {taken : Taken} {b : List ℕ}
    → reply_of reply ≡ maybe.some answer → taken ≡ here_run limit c answer r → b ≡ here_buffer limit c answer r incoming → length b ≡ length incoming
    → Took limit c r reply incoming answer taken b
took e run bytes n = record { formed = e; run = run; bytes = bytes; same_length = n }

-- Start ----------------------------------------------------------------------------------------------------------------------

module _ (list table : List ℕ) (s : Sizes) (counts : Counts) (incoming outgoing : List ℕ)
    (x : PreparedFor list table s counts (length incoming) (length outgoing)) where
  abbrev plan : Plan
  plan = plan_by list s

  -- a record left by a call, where its state has ended or fits
  left_asked : (t : State) (n : ℕ) (r : Record) (b : List ℕ) → FitKept plan incoming outgoing n t → state_of r b outgoing ≡ t
      → (Askable table r × Waiting list table r)
      × (taken_call plan t ≡ record { refusal = not_refused; wanted = wanted_by list table r outgoing; state = state_of r b outgoing })
  left_asked t n r b k e =
      let f : (r.ended ≡ true) ⊎ (fits plan r ≡ true) =
      subst (λ (y : State). (y.run.ended ≡ true) ⊎ (fits plan y.run ≡ true)) (sym e) k.ended_or_fits in (
        (
          askable list table s counts (length incoming) (length outgoing) x r f,
          at_command list table s counts (length incoming) (length outgoing) x r f,
        ),
        ap (λ (y : State). taken_call plan y) (sym e)
            ∙ ap (λ (w : _). record { refusal = not_refused; wanted = w; state = state_of r b outgoing })
            (sym (wanted_by_lem list table s counts (length incoming) (length outgoing) x r b outgoing f)),
      )

  module _ (z : Record) (ez : z ≡ zero_record false) (r : Record) (b : List ℕ)
      (e : (out : List ℕ) → state_of r b out ≡ run_on (rest_from list s.count first_spot) (state_of z incoming out)) where
    started : (Askable table r × Waiting list table r)
        × (taken_call plan (begun plan incoming outgoing)
        ≡ record { refusal = not_refused; wanted = wanted_by list table r outgoing; state = state_of r b outgoing })
    unfolding begun
    started =
        left_asked (begun plan incoming outgoing) 0 r b
        (fit_begun plan (sound list table s counts (length incoming) (length outgoing) x) incoming outgoing)
        (e outgoing ∙ ap (λ (y : Record). run_on (rest_from list s.count first_spot) (state_of y incoming outgoing)) ez)

    pub start_asked : Askable table r × Waiting list table r
    start_asked = started.0

    pub start_yields : start_of list incoming outgoing
        ≡ record { refusal = not_refused; wanted = wanted_by list table r outgoing; state = state_of r b outgoing }
    unfolding start_of
    start_yields = ap (λ (y : Prepared). start_prepared y incoming outgoing) x.prepared ∙ started.1

  -- Step ---------------------------------------------------------------------------------------------------------------------

  module _ (r : Record) (reply : List ℕ) where
    abbrev before : State
    before = state_of r incoming outgoing

    pub step_prepared_lem : step_of list before reply ≡ step_prepared (ready plan) reply before
    unfolding step_of
    step_prepared_lem = ap (λ (y : Prepared). step_prepared y reply before) x.prepared

    module _ (waits : r.ended ≡ false) (c : Command) (a : Alive plan c r) where
      by_reply : step_prepared (ready plan) reply before ≡ step_reply plan (reply_of reply) before
      by_reply = rw (a.fit, waits)

      pub step_ready : Ready c r incoming
      step_ready =
          ready_here list table s counts (length incoming) (length outgoing) x r c a.rest a.waits a.fit incoming refl

      module _ (answer : Reply) (taken : Taken) (b : List ℕ) (w : Took s.limit c r reply incoming answer taken b) where
        pub step_going : GoingBy list s.count taken b
        step_going = taken_going list table s counts (length incoming) (length outgoing) x r c a answer taken b w.run w.same_length

        module _ (next : Record) (b' : List ℕ)
            (en : (out : List ℕ)
            → state_of next b' out ≡ resumed (rest_from list s.count (spot_after (record_in taken).spot)) taken b out) where
          arrives : state_of next b' outgoing ≡ take_at plan answer before
          arrives =
              en outgoing ∙ sym (taken_resumed list table s counts (length incoming) (length outgoing) x r c a answer incoming taken b outgoing w.run w.bytes)

          left : (Askable table next × Waiting list table next)
              × (taken_call plan (take_at plan answer before)
              ≡ record { refusal = not_refused; wanted = wanted_by list table next outgoing; state = state_of next b' outgoing })
          left =
              left_asked (take_at plan answer before) (r.operations + 1) next b'
              (fit_kept plan (sound list table s counts (length incoming) (length outgoing) x) before a.fit answer) arrives

          pub step_asked : Askable table next × Waiting list table next
          step_asked = left.0

          pub step_yields : step_prepared (ready plan) reply before
              ≡ record { refusal = not_refused; wanted = wanted_by list table next outgoing; state = state_of next b' outgoing }
          step_yields = by_reply ∙ ap (λ (y : maybe.Option Reply). step_reply plan y before) w.formed ∙ left.1
