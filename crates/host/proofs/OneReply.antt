-- Several replies of which there is one are a step: the same refusal, operation wanted, record and buffers. A row of eight bytes has one piece, and
-- a step is refused as the row is.
use Prim.Native.Nat.{ℕ, zero, suc, ◌≤◌}
use mathlib.Core.Path.{◌≡◌, refl, sym, ap, ap₂, ◌∙◌}
use mathlib.Core.Bool.{true, false}
use mathlib.Core.List.{List, [], ◌∷◌}
use mathlib.Core.Option.{Option, none, some}
use native.Mathlib.Omega.{arith}
use lib.ListN.{length, take, drop_of_length-le}
use Rattle.base.specs.Refusals.{not_refused}
use Rattle.base.proofs.Tests.{on}
use Rattle.walk.specs.Admission.{Plan, Prepared, unfit, ready, prepare}
use Rattle.reply.specs.Replies.{reply_of, replies_in, all_formed}
use Rattle.reply.specs.Effect.{State}
use Rattle.reply.specs.declared.replies.Reply.{Reply}
use Rattle.reply.proofs.Rows.{replies_none, replies_more}
use Rattle.calls.specs.Fit.{fits}
use Rattle.calls.specs.Calls.{Called, taken_call, take_at, step_of, RunThrough, steps_over, Stepping, taken_steps, steps_of}

take_all : (l : List ℕ) (n : ℕ) → length l ≤ n → take n l ≡ l
take_all [] zero h = refl
take_all [] (suc n) h = refl
take_all (x ∷ l) zero h = absurd (omega arith)
take_all (x ∷ l) (suc n) h = ap (λ (rest : List ℕ). x ∷ rest) (take_all l n (omega arith))

one_piece : (reply : List ℕ) → length reply ≡ 8 → replies_in reply ≡ reply ∷ []
one_piece reply e =
    replies_more reply (omega arith)
    ∙ ap₂ (λ (r rest : List ℕ). r ∷ replies_in rest) (take_all reply 8 (omega arith)) (drop_of_length-le reply {i = 8} (omega arith))
    ∙ ap (λ (rs : List (List ℕ)). reply ∷ rs) replies_none

-- what several replies leave, but for how many were taken
abbrev call_of : Stepping → Called
call_of x = record { refusal = x.refusal; wanted = x.wanted; state = x.state }

module _ (list : List ℕ) (s : State) (reply : List ℕ) (one : replies_in reply ≡ reply ∷ []) where
  abbrev Same : Type 0
  Same = call_of (steps_of list s reply) ≡ step_of list s reply

  -- a reply that is taken
  module _ (p : Plan) (q : prepare list (length s.incoming) (length s.outgoing) ≡ ready p) (a : s.run.ended ≡ false)
      (f : fits p s.run ≡ true) (r : Reply) (e : reply_of reply ≡ some r) where
    formed : all_formed (replies_in reply) ≡ true
    unfolding all_formed
    formed = rw (one, e)

    row_taken : steps_of list s reply ≡ taken_steps p (steps_over list (replies_in reply) 0 s)
    unfolding steps_of
    row_taken = rw (q, f, formed, a)

    step_taken : step_of list s reply ≡ taken_call p (take_at p r s)
    unfolding step_of
    step_taken = rw (q, f, e, a)

    one_taken : steps_over list (replies_in reply) 0 s ≡ record { refusal = not_refused; taken = 1; state = (step_of list s reply).state }
    unfolding steps_over
    one_taken = rw one (rw a refl)

    taken : Same
    taken =
        ap call_of row_taken ∙ ap (λ (x : RunThrough). call_of (taken_steps p x)) one_taken
        ∙ ap (λ (c : Called). taken_call p c.state) step_taken ∙ sym step_taken

  by_reply : (p : Plan) → prepare list (length s.incoming) (length s.outgoing) ≡ ready p → s.run.ended ≡ false → fits p s.run ≡ true
      → (x : Option Reply) → reply_of reply ≡ x → Same
  unfolding steps_of step_of all_formed
  by_reply p q a f none e = rw (q, f, one, e, a)
  by_reply p q a f (some r) e = taken p q a f r e

  by_plan : (x : Prepared) → prepare list (length s.incoming) (length s.outgoing) ≡ x → Same
  unfolding steps_of step_of
  by_plan (unfit r) q = rw q
  by_plan (ready p) q =
      on s.run.ended (λ a. rw (q, a))
      (λ a. on (fits p s.run) (λ f. by_reply p q a f (reply_of reply) refl) (λ f. rw (q, f, a)))

pub one_reply : (list : List ℕ) (s : State) (reply : List ℕ) → length reply ≡ 8 → call_of (steps_of list s reply) ≡ step_of list s reply
one_reply list s reply e = by_plan list s reply (one_piece reply e) (prepare list (length s.incoming) (length s.outgoing)) refl
