-- A reply taken keeps the invariant: with no cause the run goes on, with a cause it ends.
use Prim.Native.Nat.{ℕ, ◌+◌, ◌≤◌}
use mathlib.Core.Path.{◌≡◌, refl}
use mathlib.Core.Bool.{Bool, true, false}
use mathlib.Core.List.{List, [], ◌∷◌}
use native.Mathlib.Omega.{arith}
use Rattle.std.specs.Prelude.{if◌then◌else◌}
use Rattle.base.specs.Checks.{Check}
use Rattle.camac.specs.Words.{qmode_of, is_block, position_of}
use Rattle.base.proofs.Checks.{Passed}
use Rattle.walk.specs.Worst.{worst_over}
use Rattle.walk.specs.Admission.{Plan}
use Rattle.walk.proofs.Halting.{Halts, Well}
use Rattle.reply.specs.Causes.{done_by, cause_checks, all_that_hold, causes_of}
use Rattle.qmodes.proofs.MostFalls.{Progress, answer_progress}
use Rattle.reply.specs.Status.{flags_of, waiting_bits}
use Rattle.reply.specs.Effect.{State, with_run, counted, longword_of, by_causes, take_reply}
use Rattle.reply.specs.declared.replies.Reply.{Reply}
use Rattle.reply.specs.declared.replies.Reply.TheVariants.{Answered, Timeout, NotRecognised, NoSync}
use Rattle.worst_count.proofs.StatusBits.{Only, flags_only}
use Rattle.worst_count.proofs.Live.{Live, live_halts, live_well}
use Rattle.worst_count.proofs.RunOn.{last_marks, Kept, Reached}
use Rattle.worst_count.proofs.Move.{goes_on, ends_by}

-- The row of causes ------------------------------------------------------------------------------------------------------

none_hold : (cs : List Check) → all_that_hold cs ≡ [] → Passed cs
none_hold [] e = tt
none_hold (c ∷ cs) e = go c.holds refl e (none_hold cs)
  where
    go : (t : Bool) → c.holds ≡ t → (if t then c.number ∷ all_that_hold cs else all_that_hold cs) ≡ [] → (all_that_hold cs ≡ [] → Passed cs)
        → (c.holds ≡ false) × Passed cs
    go true q e ih = let z : ◌≡◌ {A = ℕ} 0 1 = cc in absurd (omega arith)
    go false q e ih = (q, ih e)

-- One reply --------------------------------------------------------------------------------------------------------------

module _ (p : Plan) (incoming outgoing : List ℕ) (hl : 1 ≤ p.limit) (hh : Halts p.visits) (hw : Well p.visits) (s : State) (t : ℕ)
    (l : Live false p s.run) (kept : Kept incoming outgoing (last_marks p).incoming s) (count : s.run.operations ≡ t) where
  -- a reply without a cause is an answer
  no_cause : (reply : Reply) → causes_of p.limit l.command s.run reply ≡ []
      → Only waiting_bits (flags_of p.limit l.command s.run reply)
      × Progress false p.limit (qmode_of l.command.transfer) (position_of l.command.transfer) s.run.position s.run.left
      s.run.tries (worst_over p.limit l.post)
      (done_by (qmode_of l.command.transfer) reply)
  unfolding causes_of cause_checks
  no_cause NoSync e = let z : ◌≡◌ {A = ℕ} 0 1 = cc in absurd (omega arith)
  no_cause NotRecognised e = let z : ◌≡◌ {A = ℕ} 0 1 = cc in absurd (omega arith)
  no_cause Timeout e = let z : ◌≡◌ {A = ℕ} 0 1 = cc in absurd (omega arith)
  no_cause (Answered a) e =
      let c : Passed (cause_checks p.limit (qmode_of l.command.transfer) (is_block l.command.transfer) l.command.ad s.run a) = none_hold (cause_checks p.limit (qmode_of l.command.transfer) (is_block l.command.transfer) l.command.ad s.run a) e in (
        flags_only p.limit l.command s.run a c.0 c.1.1.0,
        answer_progress p.limit (qmode_of l.command.transfer) (position_of l.command.transfer) s.run.position s.run.left
            s.run.tries (worst_over p.limit l.post) a l.some l.tried l.position c.0 c.1.1.0,
      )

  pub takes : (reply : Reply) → Reached false p incoming outgoing (take_reply p.limit l.post l.command reply s) (t + 1)
  unfolding take_reply by_causes
  takes reply = by_row (causes_of p.limit l.command s.run reply) refl
    where
      by_row : (codes : List ℕ) → causes_of p.limit l.command s.run reply ≡ codes → Reached false p incoming outgoing
          (by_causes codes l.post l.command (done_by (qmode_of l.command.transfer) reply) (longword_of reply)
          (with_run (counted p.limit l.command reply s.run) s)) (t + 1)
      by_row [] e =
          let clear = no_cause reply e in
          goes_on false p incoming outgoing hl s t l kept count reply (longword_of reply) clear.0
          (live_halts false p s.run l hh) (live_well false p s.run l hw)
          (done_by (qmode_of l.command.transfer) reply) clear.1
      by_row (code ∷ codes) e =
          ends_by p incoming outgoing s t l kept count reply (longword_of reply) code codes (done_by (qmode_of l.command.transfer) reply)
