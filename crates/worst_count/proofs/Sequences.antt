-- From one call to every sequence of calls: a refused call leaves all as it was, so that a sequence leads where its taken replies lead, and
-- each of those keeps the invariant.
use Prim.Native.Nat.{ℕ, suc, ◌+◌}
use mathlib.Core.Path.{◌≡◌, refl, sym, ap, ap₂, ◌∙◌, subst}
use mathlib.Core.Logic.{◌⊎◌, inl, inr}
use mathlib.Core.Bool.{Bool, true, false}
use mathlib.Core.List.{List, [], ◌∷◌}
use mathlib.Core.Option.{Option, none, some}
use native.Mathlib.Omega.{arith}
use lib.ListN.{length}
use Rattle.std.specs.Prelude.{if◌then◌else◌}
use Rattle.base.specs.Refusals.{refusal}
use Rattle.walk.specs.Walk.{marks_over}
use Rattle.walk.specs.Worst.{worst_over}
use Rattle.walk.specs.Admission.{Plan, Prepared, unfit, ready, prepare}
use Rattle.reply.specs.Replies.{reply_of, is_some_reply, is_formed}
use Rattle.reply.specs.Effect.{State, take_reply}
use Rattle.calls.specs.Fit.{fits}
use Rattle.calls.specs.Calls.{Called, refused_call, taken_call, begun, start_of, take_from, take_at, step_reply, step_prepared, step_of}
use Rattle.reply.specs.declared.replies.Reply.{Reply}
use Rattle.worst_count.specs.WorstCount.{Lent, own, other, finds, leaves, Calls, no_call, taken, refused, after_replies, start_state, NoneRefused}
use Rattle.qmodes.proofs.MostFalls.{Near}
use Rattle.worst_count.proofs.Live.{marks_ok_start, Live, unmoved, live_on, live_fits}
use Rattle.worst_count.proofs.Take.{takes}
use Rattle.worst_count.proofs.RunOn.{last_marks, Kept, Over, Reached, runs_on}
use Rattle.worst_count.proofs.Admitted.{SoundPlan}

-- Refused calls ----------------------------------------------------------------------------------------------------------

pub refused_keeps : (list : List ℕ) (s : State) (reply : List ℕ) (k : ℕ) → (step_of list s reply).refusal.number ≡ suc k
    → (step_of list s reply).state ≡ s
unfolding step_of
refused_keeps list s reply k e = by_plan (prepare list (length s.incoming) (length s.outgoing)) e
  where
    by_reply : (p : Plan) (x : Option Reply) → (step_reply p x s).refusal.number ≡ suc k → (step_reply p x s).state ≡ s
    by_reply p none e = refl
    by_reply p (some r) e = absurd (omega arith)

    by_fit : (p : Plan) (t : Bool) → (if t then step_reply p (reply_of reply) s else refused_call (refusal 23) s).refusal.number ≡ suc k
        → (if t then step_reply p (reply_of reply) s else refused_call (refusal 23) s).state ≡ s
    by_fit p true e = by_reply p (reply_of reply) e
    by_fit p false e = refl

    by_end : (p : Plan) (t : Bool)
        → (if t then refused_call (refusal 24) s else if fits p s.run then step_reply p (reply_of reply) s else refused_call
        (refusal 23) s).refusal.number ≡ suc k
        → (if t then refused_call (refusal 24) s else if fits p s.run then step_reply p (reply_of reply) s else refused_call (refusal 23) s).state ≡ s
    by_end p true e = refl
    by_end p false e = by_fit p (fits p s.run) e

    by_plan : (x : Prepared) → (step_prepared x reply s).refusal.number ≡ suc k → (step_prepared x reply s).state ≡ s
    by_plan (unfit r) e = refl
    by_plan (ready p) e = by_end p s.run.ended e

-- the run keeps its record and buffers, whatever the call was lent
refused_leaves : (list : List ℕ) (s : State) (i o : Lent) (reply : List ℕ) (k : ℕ) → (step_of list (finds s i o) reply).refusal.number ≡ suc k
    → leaves s i o (step_of list (finds s i o) reply).state ≡ s
refused_leaves list s i o reply k e = ap (leaves s i o) (refused_keeps list (finds s i o) reply k e) ∙ back i o
  where
    back : (i o : Lent) → leaves s i o (finds s i o) ≡ s
    back own own = refl
    back own (other y) = refl
    back (other x) own = refl
    back (other x) (other y) = refl

pub calls_end : {list : List ℕ} {s end : State} {replies : List (List ℕ)} → Calls list s replies end → end ≡ after_replies list s replies
unfolding after_replies
calls_end no_call = refl
calls_end (taken reply e c) = calls_end c
calls_end {list} (refused {s = s} {replies = replies} list' i o reply k e c) =
    calls_end c ∙ ap (λ (x : State). after_replies list x replies) (refused_leaves list' s i o reply k e)

pub calls_taken : {list : List ℕ} {s end : State} {replies : List (List ℕ)} → Calls list s replies end → NoneRefused list s replies
calls_taken no_call = tt
calls_taken (taken reply e c) = (e, calls_taken c)
calls_taken {list} (refused {s = s} {replies = replies} list' i o reply k e c) =
    subst (λ (x : State). NoneRefused list x replies) (refused_leaves list' s i o reply k e) (calls_taken c)

-- One call ---------------------------------------------------------------------------------------------------------------

-- a run freshly started, as any run and as the slowest
pub begun_reached : (slow : Bool) (p : Plan) → SoundPlan p → (incoming outgoing : List ℕ)
    → Reached slow p incoming outgoing (begun p incoming outgoing) 0
unfolding begun marks_over
begun_reached slow p sound incoming outgoing = runs_on slow p incoming outgoing sound.limit_least p.visits [] _ 0 (record {
  split = refl;
  halts = sound.halts;
  well = sound.well;
  marks = marks_ok_start slow;
  bound = near_start slow;
  status = record { same = refl };
  noted = unmoved refl refl refl;
  count = refl;
  kept = record { same_length = refl; beyond = λ i h. refl; same_outgoing = refl };
})
  where
    near_start : (slow : Bool) → Near slow (0 + worst_over p.limit p.visits) (worst_over p.limit p.visits)
    near_start true = omega arith
    near_start false = omega arith

-- at a live record a reply is taken at its instruction
pub take_live : (slow : Bool) (p : Plan) (s : State) → SoundPlan p → (l : Live slow p s.run) (reply : Reply)
    → take_at p reply s ≡ take_reply p.limit l.post l.command reply s
unfolding take_at take_from
take_live slow p s sound l reply = rw (live_on slow p s.run sound.distinct l)

module _ (list incoming outgoing : List ℕ) (p : Plan) (prepared : prepare list (length incoming) (length outgoing) ≡ ready p)
    (sound : SoundPlan p) where
  pub start_taken : start_of list incoming outgoing ≡ taken_call p (begun p incoming outgoing)
  unfolding start_of
  start_taken = rw prepared

  pub start_state_lem : start_state list incoming outgoing ≡ begun p incoming outgoing
  start_state_lem = ap (λ (x : Called). x.state) start_taken

  pub start_reached : (slow : Bool) → Reached slow p incoming outgoing (start_state list incoming outgoing) 0
  start_reached slow = subst (λ (s : State). Reached slow p incoming outgoing s 0) (sym start_state_lem) (begun_reached slow p sound incoming outgoing)

  module _ (slow : Bool) (s : State) (kept : Kept incoming outgoing (last_marks p).incoming s) where
    pub prepared_still : prepare list (length s.incoming) (length s.outgoing) ≡ ready p
    prepared_still = ap₂ (λ (i o : ℕ). prepare list i o) kept.same_length (ap length kept.same_outgoing) ∙ prepared

    pub step_ended : s.run.ended ≡ true → (reply : List ℕ) → step_of list s reply ≡ refused_call (refusal 24) s
    unfolding step_of
    step_ended e reply = rw (prepared_still, e)

    pub step_live : Live slow p s.run → (reply : List ℕ) → step_of list s reply ≡ step_reply p (reply_of reply) s
    unfolding step_of
    step_live l reply = rw (prepared_still, live_fits slow p s.run sound.distinct l, l.waits)

  reply_number : (x : Option Reply) (s : State) → (step_reply p x s).refusal.number ≡ (if is_some_reply x then 0 else 22)
  reply_number none s = refl
  reply_number (some r) s = refl

  -- the number of a step's refusal
  pub step_number : (s : State) (t : ℕ) → Reached false p incoming outgoing s t → (reply : List ℕ)
      → (step_of list s reply).refusal.number ≡ (if s.run.ended then 24 else if is_formed reply then 0 else 22)
  step_number s t r reply = by_stage r.stage
    where
      by_stage : Live false p s.run ⊎ Over false p s.run
          → (step_of list s reply).refusal.number ≡ (if s.run.ended then 24 else if is_formed reply then 0 else 22)
      by_stage (inr v) = ap (λ (x : Called). x.refusal.number) (step_ended false s r.kept v.over reply)
          ∙ ap (λ (e : Bool). if e then 24 else if is_formed reply then 0 else 22) (sym v.over)
      by_stage (inl l) = ap (λ (x : Called). x.refusal.number) (step_live false s r.kept l reply) ∙ reply_number (reply_of reply) s
          ∙ ap (λ (e : Bool). if e then 24 else if is_formed reply then 0 else 22) (sym l.waits)

  -- what a step that is not refused took
  pub record StepTaken (s : State) (reply : List ℕ) : Type 0 where
    pub live : Live false p s.run
    pub answer : Reply
    pub formed : reply_of reply ≡ some answer
    pub state : (step_of list s reply).state ≡ take_reply p.limit live.post live.command answer s

  pub step_taken : (s : State) (t : ℕ) → Reached false p incoming outgoing s t → (reply : List ℕ) → (step_of list s reply).refusal.number ≡ 0
      → StepTaken s reply
  step_taken s t r reply e = by_stage r.stage
    where
      by_stage : Live false p s.run ⊎ Over false p s.run → StepTaken s reply
      by_stage (inr v) = absurd (omega (arith, e, ap (λ (x : Called). x.refusal.number) (step_ended false s r.kept v.over reply)))
      by_stage (inl l) = by_reply (reply_of reply) refl
        where
          call : step_of list s reply ≡ step_reply p (reply_of reply) s
          call = step_live false s r.kept l reply

          by_reply : (x : Option Reply) → reply_of reply ≡ x → StepTaken s reply
          by_reply none q = absurd (omega (
            arith,
            e,
            ap (λ (x : Called). x.refusal.number) call
                ∙ ap (λ (x : Option Reply). (step_reply p x s).refusal.number) q,
          ))
          by_reply (some x) q = record {
            live = l;
            answer = x;
            formed = q;
            state = ap (λ (c : Called). c.state) call ∙ ap (λ (y : Option Reply). (step_reply p y s).state) q ∙ take_live false p s sound l x;
          }

  -- Rows of taken replies ------------------------------------------------------------------------------------------------

  pub step_reached : (s : State) (t : ℕ) (reply : List ℕ) → Reached false p incoming outgoing s t → (step_of list s reply).refusal.number ≡ 0
      → Reached false p incoming outgoing (step_of list s reply).state (t + 1)
  step_reached s t reply r e =
      let x = step_taken s t r reply e in
      rw x.state (takes p incoming outgoing sound.limit_least sound.halts sound.well s t x.live r.kept r.count x.answer)

  pub replies_reached : (replies : List (List ℕ)) (s : State) (t : ℕ) → Reached false p incoming outgoing s t → NoneRefused list s replies
      → Reached false p incoming outgoing (after_replies list s replies) (t + length replies)
  unfolding after_replies
  replies_reached [] s t r h = subst (λ (n : ℕ). Reached false p incoming outgoing s n) (omega arith) r
  replies_reached (reply ∷ replies) s t r h =
      subst (λ (n : ℕ). Reached false p incoming outgoing (after_replies list (step_of list s reply).state replies) n) (omega arith)
      (replies_reached replies (step_of list s reply).state (t + 1) (step_reached s t reply r h.0) h.1)

  -- from the start
  pub row_reached : (replies : List (List ℕ)) → NoneRefused list (start_state list incoming outgoing) replies
      → Reached false p incoming outgoing (after_replies list (start_state list incoming outgoing) replies) (length replies)
  row_reached replies h =
      subst (λ (n : ℕ). Reached false p incoming outgoing (after_replies list (start_state list incoming outgoing) replies) n) (omega arith)
      (replies_reached replies (start_state list incoming outgoing) 0 (start_reached false) h)
