-- The whole run as code makes it: refused as its preparation is, or by 22 where its row is not formed; else its start and its replies.
use Prim.Native.Nat.{ℕ, ◌*◌, ◌/◌}
use mathlib.Core.Path.{◌≡◌, refl, sym, ap, ◌∙◌, subst}
use mathlib.Core.Bool.{true, false}
use mathlib.Core.List.{List, []}
use native.Mathlib.Omega.{arith}
use lib.ListN.{length}
use Rattle.std.specs.Prelude.{Option, Some, None, Result, Ok, Err, IsErrAnd}
use Rattle.std.specs.Option.{ok_or}
use Rattle.base.specs.Refusals.{refusal, told, RefusedAtZero}
use Rattle.base.specs.declared.refusals.Fault.{Fault}
use Rattle.base.specs.declared.refusals.Fault.TheVariants.{ReplyNotFormed}
use Rattle.base.specs.Refusals.{Refusal}
use Rattle.base.specs.declared.refusals.Refused.{Refused}
use Rattle.listfile.specs.declared.check.Sizes.{Sizes}
use Rattle.walk.specs.Admission.{prepare}
use Rattle.walk.specs.model.Sums.{rest_from, plan_by, prepared_by}
use Rattle.walk.specs.declared.Planned.{Planned}
use Rattle.walk.specs.declared.worst.Counts.{Counts}
use Rattle.reply.specs.Replies.{replies_in, all_formed}
use Rattle.reply.specs.Effect.{State, run_on, state_of, zero_record}
use Rattle.calls.specs.Calls.{begun, refused_run, run_of, Runs}
use Rattle.reply.specs.declared.records.Record.{Record}
use Rattle.calls.specs.declared.Ran.{Ran}
use Rattle.worst_count.proofs.Admitted.{SoundPlan}
use Rattle.worst_count.proofs.FitKept.{fit_begun}
use Rattle.step.specs.model.Onward.{PreparedFor}
use Rattle.whole_run.specs.model.Row.{row_from, stopped_at, Grounds, Stage}
use Rattle.whole_run.proofs.StepsAreTakes.{run_refused, run_unformed, run_takes}
use Rattle.whole_run.proofs.WordsAhead.{grounds_sound}
use Rattle.walk.specs.Walk.{first_spot}

-- the error that stands for none
pub error_of : {A E : Type 0} {o : Option A} (e : E) {f : E} → Err f ≡ ok_or o e → o ≡ None → f ≡ e
error_of {o = Some x} e p q = absurd (cc)
error_of {o = None} e p q = cc

module _ (list incoming outgoing row : List ℕ) where
  -- what a whole run answers, by what it is
  abbrev Answers : Result Ran Refused → List ℕ → Type 0
  Answers ran after = Runs (run_of list incoming outgoing row) ran after outgoing

  answers_refused : (cause : Refusal) → run_of list incoming outgoing row ≡ refused_run cause incoming outgoing → {r : Refused} → told r ≡ cause
      → Answers (Err r) incoming
  answers_refused cause e eq = rw e (record { refusal = eq; taken = refl; run = refl; incoming_bytes = refl; outgoing_bytes = refl })

  pub whole_refused : (x : Result Planned Refused) (q : Refused) → prepare list (length incoming) (length outgoing) ≡ prepared_by list x → x ≡ Err q
      → {ran : Result Ran Refused} → IsErrAnd ran (λ r. r ≡ q) → Answers ran incoming
  whole_refused x q e is {ran = Ok y} h = absurd h
  whole_refused x q e is {ran = Err r} h =
      answers_refused (told q) (run_refused list incoming outgoing row (told q) (e ∙ ap (prepared_by list) is)) (ap told h)

  module _ (table : List ℕ) (s : Sizes) (counts : Counts) (x : PreparedFor list table s counts (length incoming) (length outgoing)) where
    pub grounds : Grounds list table s (length incoming)
    grounds = record { counts = counts; outgoing = length outgoing; prepared = x }

    sound : SoundPlan (plan_by list s)
    sound = grounds_sound list table s (length incoming) grounds

    pub whole_unformed : all_formed (replies_in row) ≡ false → {ran : Result Ran Refused} {f : Fault} → IsErrAnd ran (RefusedAtZero f)
        → f ≡ ReplyNotFormed → Answers ran incoming
    whole_unformed e {ran = Ok x} h ef = absurd h
    whole_unformed e {ran = Err r} h ef =
        answers_refused (refusal 22) (run_unformed list incoming outgoing row (plan_by list s) x.prepared e) (rw (h, ef))

    -- the start, from a record that is all zero
    module _ (z first : Record) (b : List ℕ) (ez : z ≡ zero_record false)
        (es : (out : List ℕ) → state_of first b out ≡ run_on (rest_from list s.count first_spot) (state_of z incoming out)) where
      started : (out : List ℕ) → state_of first b out ≡ begun (plan_by list s) incoming out
      unfolding begun
      started out = es out ∙ ap (λ (y : Record). run_on (rest_from list s.count first_spot) (state_of y incoming out)) ez

      pub start_stage : Stage (plan_by list s) first
      start_stage =
          subst (λ (t : State). Stage (plan_by list s) t.run) (sym (started []))
          (fit_begun (plan_by list s) sound incoming []).ended_or_fits

      pub whole_run : all_formed (replies_in row) ≡ true → (r : Record) (taken : ℕ) (after : List ℕ)
          → ((out : List ℕ) → row_from (plan_by list s) row 0 (state_of first b out) ≡ stopped_at (taken * 8) (state_of r after out))
          → Answers (Ok (record { run = r; taken = taken })) after
      whole_run formed r taken after e =
          let n : taken ≡ taken * 8 / 8 = omega arith in
          let is : run_of list incoming outgoing row ≡ stopped_at (taken * 8) (state_of r after outgoing) =
          run_takes list incoming outgoing row (plan_by list s) x.prepared sound formed
          ∙ ap (row_from (plan_by list s) row 0) (sym (started outgoing)) ∙ e outgoing in
          rw is (record { refusal = refl; taken = n; run = refl; incoming_bytes = refl; outgoing_bytes = refl })
