-- The whole run is its replies taken one after the other: a step at a record that fits takes its reply, and what it leaves has ended or fits
-- again, so that no step looks at the list anew. A run that is refused is refused before it starts. One turn of a loop over the row takes one
-- reply.
use Prim.Native.Nat.{ℕ, ◌+◌, ◌/◌, ◌≤◌, ◌<◌}
use mathlib.Core.Path.{◌≡◌, refl, sym, ap, ap₂, ◌∙◌}
use mathlib.Core.Logic.{inl, inr}
use mathlib.Core.Bool.{Bool, true, false, true≢false}
use mathlib.Core.List.{List, [], ◌∷◌}
use mathlib.Core.Option.{Option, some}
use native.Mathlib.Omega.{arith}
use lib.ListN.{length, take, drop}
use Rattle.std.specs.Prelude.{if◌then◌else◌}
use Rattle.base.specs.Refusals.{not_refused, refusal}
use Rattle.base.specs.Refusals.{Refusal}
use Rattle.walk.specs.Admission.{Plan, unfit, ready, prepare}
use Rattle.reply.specs.Replies.{reply_of, replies_in, all_formed}
use Rattle.reply.specs.Effect.{State}
use Rattle.calls.specs.Fit.{fits}
use Rattle.calls.specs.Calls.{Called, begun, take_at, step_reply, step_of, steps_over, refused_run, run_of}
use Rattle.reply.specs.declared.replies.Reply.{Reply}
use Rattle.worst_count.proofs.Admitted.{SoundPlan}
use Rattle.worst_count.proofs.Sequences.{start_state_lem}
use Rattle.worst_count.proofs.FitKept.{fit_begun, fit_kept, step_fits}
use Rattle.row.proofs.RowLaws.{FormedHead, formed_head, row_cut, row_end}
use Rattle.whole_run.specs.model.Row.{take_bytes, takes_over, row_from, stopped_at, Stage}

if_true : {A : Type 0} {b : Bool} (x y : A) → b ≡ true → (if b then x else y) ≡ x
if_true x y e = rw e

if_false : {A : Type 0} {b : Bool} (x y : A) → b ≡ false → (if b then x else y) ≡ y
if_false x y e = rw e

-- `takes_over`, unrolled
pub takes_over_lem : (p : Plan) (rs : List (List ℕ)) (taken : ℕ) (s : State) → s.run.ended ≡ true
    → takes_over p rs taken s ≡ record { refusal = not_refused; taken = taken; state = s }
unfolding takes_over
takes_over_lem p [] taken s e = refl
takes_over_lem p (r ∷ rs) taken s e = if_true _ _ e

pub takes_more : (p : Plan) (r : List ℕ) (rs : List (List ℕ)) (taken : ℕ) (s : State) (reply : Reply) → s.run.ended ≡ false
    → reply_of r ≡ some reply → takes_over p (r ∷ rs) taken s ≡ takes_over p rs (taken + 1) (take_at p reply s)
unfolding takes_over
takes_more p r rs taken s reply e f =
    if_false _ _ e ∙ ap (λ (x : Option Reply). takes_over p rs (taken + 1) (take_bytes p x s)) f

module _ (list : List ℕ) (p : Plan) (sound : SoundPlan p) where
  still_fits : (s : State) → s.run.ended ≡ false → Stage p s.run → fits p s.run ≡ true
  still_fits s e (inl h) = absurd (true≢false (sym h ∙ e))
  still_fits s e (inr h) = h

  -- a step at a record that fits takes its reply
  step_takes : (s : State) → prepare list (length s.incoming) (length s.outgoing) ≡ ready p → fits p s.run ≡ true
      → (r : List ℕ) (reply : Reply) → reply_of r ≡ some reply → (step_of list s r).state ≡ take_at p reply s
  step_takes s prepared h r reply e =
      ap (λ (x : Called). x.state) (step_fits p sound list s prepared h r) ∙ ap (λ (x : Option Reply). (step_reply p x s).state) e

  pub steps_takes : (rs : List (List ℕ)) (taken : ℕ) (s : State) → prepare list (length s.incoming) (length s.outgoing) ≡ ready p
      → all_formed rs ≡ true → Stage p s.run → steps_over list rs taken s ≡ takes_over p rs taken s
  unfolding steps_over takes_over
  steps_takes [] taken s prepared formed stage = refl
  steps_takes (r ∷ rs) taken s prepared formed stage = go s.run.ended refl (steps_takes rs)
    where
      head : FormedHead r rs
      head = formed_head r rs formed

      go : (b : Bool) → s.run.ended ≡ b
          → ((taken : ℕ) (s : State) → prepare list (length s.incoming) (length s.outgoing) ≡ ready p → all_formed rs ≡ true
          → Stage p s.run
          → steps_over list rs taken s ≡ takes_over p rs taken s)
          → steps_over list (r ∷ rs) taken s ≡ takes_over p (r ∷ rs) taken s
      go true e ih = if_true _ _ e ∙ sym (takes_over_lem p (r ∷ rs) taken s e)
      go false e ih =
          let fit = still_fits s e stage in
          let k = fit_kept p sound s fit head.reply in
          let same = step_takes s prepared fit r head.reply head.is in
          if_false _ _ e ∙ ap (λ (x : State). steps_over list rs (taken + 1) x) same
          ∙ ih (taken + 1) (take_at p head.reply s)
          (ap₂ (λ (i o : ℕ). prepare list i o) k.same_length (ap length k.same_outgoing) ∙ prepared)
          head.rest k.ended_or_fits
          ∙ sym (takes_more p r rs taken s head.reply e head.is)

-- The whole run ----------------------------------------------------------------------------------------------------------

module _ (list incoming outgoing row : List ℕ) where
  pub run_refused : (r : Refusal) → prepare list (length incoming) (length outgoing) ≡ unfit r
      → run_of list incoming outgoing row ≡ refused_run r incoming outgoing
  unfolding run_of
  run_refused r e = rw e

  module _ (p : Plan) (prepared : prepare list (length incoming) (length outgoing) ≡ ready p) where
    pub run_unformed : all_formed (replies_in row) ≡ false → run_of list incoming outgoing row ≡ refused_run (refusal 22) incoming outgoing
    unfolding run_of
    run_unformed e = rw (prepared, e)

    pub run_takes : SoundPlan p → all_formed (replies_in row) ≡ true
        → run_of list incoming outgoing row ≡ row_from p row 0 (begun p incoming outgoing)
    unfolding run_of row_from
    run_takes sound e =
        let k = fit_begun p sound incoming outgoing in
        rw (prepared, e)
        (ap (λ (s : State). steps_over list (replies_in row) 0 s) (start_state_lem list incoming outgoing p prepared sound)
        ∙ steps_takes list p sound (replies_in row) 0 (begun p incoming outgoing)
        (ap₂ (λ (i o : ℕ). prepare list i o) k.same_length (ap length k.same_outgoing) ∙ prepared) e k.ended_or_fits)

-- The run over a row ---------------------------------------------------------------------------------------------------

module _ (row : List ℕ) (at : ℕ) where
  pub row_turn : (p : Plan) (s : State) (reply : Reply) → at < length row → s.run.ended ≡ false
      → reply_of (take 8 (drop at row)) ≡ some reply
      → row_from p row at s ≡ row_from p row (at + 8) (take_at p reply s)
  unfolding row_from
  row_turn p s reply h e f =
      let n : at / 8 + 1 ≡ (at + 8) / 8 = omega arith in
      ap (λ (rs : List (List ℕ)). takes_over p rs (at / 8) s) (row_cut row at h)
      ∙ takes_more p (take 8 (drop at row)) (replies_in (drop (at + 8) row)) (at / 8) s reply e f
      ∙ ap (λ (k : ℕ). takes_over p (replies_in (drop (at + 8) row)) k (take_at p reply s)) n

  pub row_over : (p : Plan) (s : State) → s.run.ended ≡ true → row_from p row at s ≡ stopped_at at s
  unfolding row_from
  row_over p s e = takes_over_lem p (replies_in (drop at row)) (at / 8) s e

  pub row_used : (p : Plan) (s : State) → length row ≤ at → row_from p row at s ≡ stopped_at at s
  unfolding row_from takes_over
  row_used p s h = rw (row_end row at h)
