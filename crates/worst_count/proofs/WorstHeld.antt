-- The upper half of demand 3: after every sequence of calls the invariant holds of the record, and a record that waits has an operation left,
-- so that the operations made are at most W, and W of them only when the run has ended. Its marks are at most B and O.
use Prim.Native.Nat.{ℕ, ◌≤◌}
use mathlib.Core.Path.{◌≡◌, sym, ap, subst}
use mathlib.Core.Logic.{◌⊎◌, inl, inr}
use mathlib.Core.Bool.{true, false}
use mathlib.Core.List.{List}
use native.Mathlib.Omega.{arith}
use lib.ListN.{length}
use Rattle.base.specs.Bytes.{Bytes}
use Rattle.walk.specs.Worst.{worst_over}
use Rattle.walk.specs.Admission.{Plan, ready, prepare, counts_of, admit_of}
use Rattle.walk.proofs.MarksGrow.{BelowMarks}
use Rattle.walk.specs.declared.worst.Counts.{Counts}
use Rattle.walk.specs.Admission.{Admitted}
use Rattle.reply.specs.Effect.{State}
use Rattle.calls.specs.Calls.{Called, start_of}
use Rattle.worst_count.specs.WorstCount.{Calls, finds, start_state, Holds}
use Rattle.worst_count.proofs.Live.{Live}
use Rattle.worst_count.proofs.RunOn.{last_marks, Over, Reached}
use Rattle.worst_count.proofs.Move.{live_below, live_some}
use Rattle.worst_count.proofs.Admitted.{SoundPlan, prepared_sound, admitted_plan}
use Rattle.worst_count.proofs.Sequences.{refused_keeps, calls_end, calls_taken, start_taken, step_number, row_reached}
use Rattle.worst_count.proofs.Ending.{calls_ended}

module _ (list incoming outgoing : List ℕ) (p : Plan) (prepared : prepare list (length incoming) (length outgoing) ≡ ready p)
    (sound : SoundPlan p) where
  -- the state after every sequence of calls is reached
  pub calls_reached : (replies : List (List ℕ)) (s : State) → Calls list (start_state list incoming outgoing) replies s
      → Reached false p incoming outgoing s (length replies)
  calls_reached replies s c =
      subst (λ (x : State). Reached false p incoming outgoing x (length replies)) (sym (calls_end c))
      (row_reached list incoming outgoing p prepared sound replies (calls_taken c))

  all_hold : (replies : List (List ℕ)) (s : State) → Calls list (start_state list incoming outgoing) replies s
      → Holds list incoming outgoing (counts_of p) replies s
  unfolding counts_of
  all_hold replies s c = record {
    within = (bounds r.stage).0;
    last = (bounds r.stage).1;
    count = r.count;
    unaltered = calls_end c;
    kept = λ list' i o reply k e. refused_keeps list' (finds s i o) reply k e;
    refusals = step_number list incoming outgoing p prepared sound s (length replies) r;
    plan = p;
    prepared = prepared;
    ending = calls_ended list incoming outgoing p prepared sound replies s c;
    beyond = r.kept.beyond;
    same_length = r.kept.same_length;
    same_outgoing = r.kept.same_outgoing;
    marks_in = (marks r.stage).incoming;
    marks_out = (marks r.stage).outgoing;
  }
    where
      r : Reached false p incoming outgoing s (length replies)
      r = calls_reached replies s c

      marks : Live false p s.run ⊎ Over false p s.run → BelowMarks s.run.marks (last_marks p)
      marks (inl l) = live_below false p s.run l
      marks (inr v) = v.below

      bounds : Live false p s.run ⊎ Over false p s.run
          → (length replies ≤ worst_over p.limit p.visits) × (length replies ≡ worst_over p.limit p.visits → s.run.ended ≡ true)
      bounds (inl l) = (
        omega (arith, l.bound, r.count, live_some false p s.run l),
        λ e. absurd
            (omega (arith, l.bound, r.count, live_some false p s.run l)),
      )
      bounds (inr v) = (omega (arith, v.within, r.count), λ e. v.over)

-- Over the bytes of a list -----------------------------------------------------------------------------------------------

module _ (list incoming outgoing : List ℕ) (c : Counts) (bytes : Bytes list)
    (admitted : admit_of list (length incoming) (length outgoing) ≡ Admitted c) where
  pub start_unrefused : (start_of list incoming outgoing).refusal.number ≡ 0
  start_unrefused = let a = admitted_plan list (length incoming) (length outgoing) c admitted in
      ap (λ (x : Called). x.refusal.number)
      (start_taken list incoming outgoing a.plan a.prepared
      (prepared_sound list (length incoming) (length outgoing) a.plan bytes a.prepared))

  pub worst_held : (replies : List (List ℕ)) (s : State) → Calls list (start_state list incoming outgoing) replies s
      → Holds list incoming outgoing c replies s
  worst_held replies s calls =
      let a = admitted_plan list (length incoming) (length outgoing) c admitted in
      subst (λ (x : Counts). Holds list incoming outgoing x replies s) a.counts
      (all_hold list incoming outgoing a.plan a.prepared
      (prepared_sound list (length incoming) (length outgoing) a.plan bytes a.prepared) replies s calls)
