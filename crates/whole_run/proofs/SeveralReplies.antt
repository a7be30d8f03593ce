-- Several replies from a record on, in the order of the code's tests: each refusal, and the row's replies taken. A record that fits is left
-- ended or fitting by every reply, so that the steps are the replies taken and the operation wanted is the table's.
use Prim.Native.Nat.{ℕ, ◌+◌, ◌*◌, ◌/◌}
use mathlib.Core.Path.{◌≡◌, refl, sym, ap, ap₂, ◌∙◌, subst}
use mathlib.Core.Logic.{inl, inr}
use mathlib.Core.Bool.{true, false}
use mathlib.Core.List.{List, [], ◌∷◌}
use native.Mathlib.Omega.{arith}
use lib.ListN.{length}
use Rattle.base.proofs.Tests.{on}
use Rattle.std.specs.Prelude.{Result, Ok, Err, IsErrAnd}
use Rattle.base.specs.Refusals.{not_refused, told}
use Rattle.base.specs.declared.refusals.Refused.{Refused}
use Rattle.listfile.specs.declared.check.Sizes.{Sizes}
use Rattle.walk.specs.Admission.{Plan, Prepared, ready, prepare}
use Rattle.walk.specs.model.Sums.{plan_by, prepared_by}
use Rattle.walk.specs.declared.Planned.{Planned}
use Rattle.walk.specs.declared.worst.Counts.{Counts}
use Rattle.reply.specs.Replies.{replies_in, all_formed}
use Rattle.reply.specs.Effect.{State, state_of}
use Rattle.reply.specs.declared.records.Record.{Record}
use Rattle.calls.specs.Fit.{fits}
use Rattle.calls.specs.Calls.{take_at, RunThrough, Stepping, refused_steps, taken_steps, steps_over, steps_prepared, steps_of, operation_or_none, Steps}
use Rattle.calls.specs.declared.Stepped.{Stepped}
use Rattle.calls.specs.declared.operations.Operation.{Operation}
use Rattle.worst_count.proofs.Admitted.{SoundPlan}
use Rattle.worst_count.proofs.FitKept.{fit_kept}
use Rattle.step.specs.model.Onward.{PreparedFor, Askable, Waiting, wanted_by}
use Rattle.step.proofs.PlanLaws.{sound, askable, at_command, wanted_by_lem}
use Rattle.whole_run.specs.model.Row.{takes_over, row_from, stopped_at, Grounds, Stage}
use Rattle.row.proofs.RowLaws.{formed_head}
use Rattle.whole_run.proofs.StepsAreTakes.{takes_over_lem, takes_more, steps_takes}

-- what replies leave has ended or fits
takes_stage : (p : Plan) → SoundPlan p → (rs : List (List ℕ)) (taken : ℕ) (s : State) → all_formed rs ≡ true → Stage p s.run
    → Stage p (takes_over p rs taken s).state.run
unfolding takes_over
takes_stage p sound [] taken s formed stage = stage
takes_stage p sound (r ∷ rs) taken s formed stage = go stage (takes_stage p sound rs)
  where
    Left : RunThrough → Type 0
    Left x = Stage p x.state.run

    ended : s.run.ended ≡ true → Left (takes_over p (r ∷ rs) taken s)
    ended e = subst Left (sym (takes_over_lem p (r ∷ rs) taken s e)) stage

    go : Stage p s.run
        → ((taken : ℕ) (s : State) → all_formed rs ≡ true → Stage p s.run → Stage p (takes_over p rs taken s).state.run)
        → Left (takes_over p (r ∷ rs) taken s)
    go (inl e) ih = ended e
    go (inr fit) ih =
        on s.run.ended ended
        (λ e. let head = formed_head r rs formed in
        subst Left (sym (takes_more p r rs taken s head.reply e head.is))
        (ih (taken + 1) (take_at p head.reply s) head.rest (fit_kept p sound s fit head.reply).ended_or_fits))

module _ {stepping : Stepping} {kept : Record} {b out : List ℕ} where
  -- an answer, by what the steps are
  pub steps_ok : {y : Stepped} {taken : ℕ} {r : Record} {wanted : Operation} → y.taken ≡ taken → y.run ≡ r → operation_or_none y.wanted ≡ wanted
      → stepping ≡ record { refusal = not_refused; taken = taken; wanted = wanted; state = state_of r b out } → Steps stepping kept (Ok y) b out
  steps_ok et er ew e =
      rw e (record { refusal = refl; taken = et; run = er; wanted = ew; incoming_bytes = refl; outgoing_bytes = refl })

  -- a refusal passed on
  pub steps_passed : {y : Result Stepped Refused} (q : Refused) → IsErrAnd y (λ r. r ≡ q)
      → stepping ≡ refused_steps (told q) (state_of kept b out) → Steps stepping kept y b out
  steps_passed {y = Ok x} q h e = absurd h
  steps_passed {y = Err r} q h e =
      rw (e, h) (record { refusal = refl; taken = refl; run = refl; wanted = refl; incoming_bytes = refl; outgoing_bytes = refl })

module _ (list incoming outgoing row : List ℕ) (r : Record) where
  abbrev before : State
  before = state_of r incoming outgoing

  pub steps_refused : (p : Result Planned Refused) (q : Refused) → prepare list (length incoming) (length outgoing) ≡ prepared_by list p
      → p ≡ Err q → steps_of list before row ≡ refused_steps (told q) before
  unfolding steps_of
  steps_refused p q ep e = ap (λ (x : Prepared). steps_prepared x list row before) (ep ∙ ap (prepared_by list) e)

  module _ (table : List ℕ) (s : Sizes) (counts : Counts) (x : PreparedFor list table s counts (length incoming) (length outgoing)) where
    abbrev plan : Plan
    plan = plan_by list s

    pub steps_prepared_lem : (y : Result Stepped Refused) (b out : List ℕ) → Steps (steps_prepared (ready plan) list row before) r y b out
        → Steps (steps_of list before row) r y b out
    unfolding steps_of
    steps_prepared_lem y b out h = subst (λ (z : Prepared). Steps (steps_prepared z list row before) r y b out) (sym x.prepared) h

    pub grounds_here : Grounds list table s (length incoming)
    grounds_here = record { counts = counts; outgoing = length outgoing; prepared = x }

    module _ (waits : r.ended ≡ false) where
      module _ (fit : fits plan r ≡ true) where
        module _ (formed : all_formed (replies_in row) ≡ true) (last : Record) (taken : ℕ) (b : List ℕ)
            (e : (out : List ℕ) → row_from plan row 0 (state_of r incoming out) ≡ stopped_at (taken * 8) (state_of last b out)) where
          takes : takes_over plan (replies_in row) 0 before ≡ stopped_at (taken * 8) (state_of last b outgoing)
          unfolding row_from
          takes = e outgoing

          last_stage : Stage plan last
          last_stage =
              subst (λ (t : RunThrough). Stage plan t.state.run) takes
              (takes_stage plan (sound list table s counts (length incoming) (length outgoing) x) (replies_in row) 0 before formed (inr fit))

          pub last_asked : Askable table last × Waiting list table last
          last_asked = (
            askable list table s counts (length incoming) (length outgoing) x last last_stage,
            at_command list table s counts (length incoming) (length outgoing) x last last_stage,
          )

          by_row : steps_prepared (ready plan) list row before ≡ taken_steps plan (steps_over list (replies_in row) 0 before)
          by_row = rw (formed, fit, waits)

          pub steps_taken_lem : steps_prepared (ready plan) list row before ≡ record {
            refusal = not_refused;
            taken = taken;
            wanted = wanted_by list table last outgoing;
            state = state_of last b outgoing;
          }
          steps_taken_lem =
              let n : taken * 8 / 8 ≡ taken = omega arith in
              by_row ∙ ap (taken_steps plan)
              (steps_takes list plan (sound list table s counts (length incoming) (length outgoing) x) (replies_in row) 0 before x.prepared formed (inr fit)
              ∙ takes)
              ∙ ap₂ (λ (k : ℕ) (w : Operation). record { refusal = not_refused; taken = k; wanted = w; state = state_of last b outgoing }) n
              (sym (wanted_by_lem list table s counts (length incoming) (length outgoing) x last b outgoing last_stage))
