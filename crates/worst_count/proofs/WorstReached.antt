-- The attained half of demand 3: answered with the slowest reply at every operation, a run makes W operations and ends with code 0 and both
-- marks at B and O. Each slowest reply is no cause, closes no block and lowers the most still possible by exactly one.
use Prim.Native.Nat.{ℕ, zero, suc, ◌+◌}
use mathlib.Core.Path.{◌≡◌, refl, sym, ap, ap₂, ◌∙◌, subst}
use mathlib.Core.Logic.{◌⊎◌, inl, inr}
use mathlib.Core.Bool.{Bool, true, false}
use mathlib.Core.List.{List, [], ◌∷◌}
use mathlib.Core.Option.{some}
use native.Mathlib.Omega.{arith}
use lib.ListN.{length}
use Rattle.std.specs.Prelude.{if◌then◌else◌}
use Rattle.camac.specs.Words.{qmode_of, is_block, position_of}
use Rattle.qmodes.specs.declared.modes.QMode.{QMode}
use Rattle.qmodes.specs.declared.modes.QMode.TheVariants.{Stop, Ignore, Repeat, Scan}
use Rattle.camac.specs.declared.words.Command.{Command}
use Rattle.packing.specs.declared.Marks.{Marks}
use Rattle.base.specs.Bytes.{byte_at, Bytes}
use Rattle.walk.specs.Walk.{Visit}
use Rattle.walk.specs.Worst.{worst_over}
use Rattle.walk.specs.Admission.{Plan, ready, prepare, counts_of, admit_of}
use Rattle.walk.specs.declared.worst.Counts.{Counts}
use Rattle.walk.specs.Admission.{Admitted}
use Rattle.reply.specs.Replies.{answer_in, has_form, reply_of}
use Rattle.qmodes.specs.Modes.{done, scan_leaves, spent, no_x, no_qin_stop}
use Rattle.reply.specs.Causes.{closed_by, causes_of}
use Rattle.reply.specs.Effect.{State, by_causes, take_reply, longword_of}
use Rattle.calls.specs.Calls.{step_of}
use Rattle.qmodes.specs.declared.modes.Answer.{Answer}
use Rattle.qmodes.proofs.SlowestFalls.{slowest_answer, Slowest, slowest_at_lem}
use Rattle.reply.specs.declared.records.Record.{Record}
use Rattle.reply.specs.declared.replies.Reply.{Reply}
use Rattle.reply.specs.declared.replies.Reply.TheVariants.{Answered}
use Rattle.reply.proofs.CodeCases.{no_causes}
use Rattle.worst_count.specs.Slowest.{slowest_at, slowest_reply}
use Rattle.worst_count.specs.WorstCount.{after_replies, WaitsAt, start_state, NoneRefused, NoneCloses, Attained}
use Rattle.worst_count.proofs.StatusBits.{flags_only}
use Rattle.worst_count.proofs.Live.{Live, live_halts, live_well, waits_once, live_waits}
use Rattle.worst_count.proofs.RunOn.{Over, Reached}
use Rattle.worst_count.proofs.Move.{live_some, goes_on}
use Rattle.worst_count.proofs.Admitted.{SoundPlan, prepared_sound, admitted_plan}
use Rattle.worst_count.proofs.Sequences.{start_reached, prepared_still, step_live, take_live}

-- The slowest reply at a record ---------------------------------------------------------------------------------------

-- no cause: X is set, and neither a parity bit nor ERR
slowest_clear : (limit : ℕ) (c : Command) (r : Record) (b : Bool) → spent limit (qmode_of c.transfer) (slowest_answer b) r.tries ≡ false
    → scan_leaves (qmode_of c.transfer) (slowest_answer b) r.position r.left ≡ false
    → no_qin_stop (qmode_of c.transfer) (is_block c.transfer) (slowest_answer b) ≡ false
    → causes_of limit c r (Answered (slowest_answer b)) ≡ []
slowest_clear limit c r b hs hv hq =
    no_causes (record { unspent = hs; parity = refl; stays = hv; x = answers_x (qmode_of c.transfer); q = hq; undamaged = refl })
  where
    answers_x : (q : QMode) → no_x q c.ad (slowest_answer b) ≡ false
    answers_x Stop = refl
    answers_x Ignore = refl
    answers_x Repeat = refl
    answers_x Scan = refl

-- its bytes are the answer
slowest_formed : (limit : ℕ) (q : QMode) (r : Record) → reply_of (slowest_reply limit q r) ≡ some (Answered (slowest_answer (slowest_at limit q r)))
unfolding slowest_reply reply_of has_form answer_in byte_at
slowest_formed limit q r = go (slowest_at limit q r)
  where
    go : (b : Bool) → reply_of (0 ∷ (if b then 3 else 2) ∷ 0 ∷ 0 ∷ 0 ∷ 0 ∷ 0 ∷ 0 ∷ []) ≡ some (Answered (slowest_answer b))
    go true = refl
    go false = refl

-- The slowest run --------------------------------------------------------------------------------------------------------

module _ (list incoming outgoing : List ℕ) (p : Plan) (prepared : prepare list (length incoming) (length outgoing) ≡ ready p)
    (sound : SoundPlan p) where
  abbrev AtSlowest : State → ℕ → Type 0
  AtSlowest s t = Reached true p incoming outgoing s t

  slowest_here : (s : State) (l : Live true p s.run) → Slowest p.limit (qmode_of l.command.transfer) (position_of l.command.transfer)
      s.run.position s.run.left s.run.tries (worst_over p.limit l.post)
  slowest_here s l =
      slowest_at_lem p.limit (position_of l.command.transfer) s.run.position s.run.left s.run.tries (worst_over p.limit l.post)
      l.some (qmode_of l.command.transfer) l.tried l.position l.room

  slowest_take : (s : State) (t : ℕ) → AtSlowest s t → (l : Live true p s.run)
      → AtSlowest (take_reply p.limit l.post l.command
      (Answered (slowest_answer (slowest_at p.limit (qmode_of l.command.transfer) s.run))) s) (t + 1)
  unfolding take_reply by_causes
  slowest_take s t r l =
      let q : QMode = qmode_of l.command.transfer in
      let a : Answer = slowest_answer (slowest_at p.limit q s.run) in
      let x = slowest_here s l in
      rw (slowest_clear p.limit l.command s.run (slowest_at p.limit q s.run) x.unspent x.stays
      (x.answers_q (is_block l.command.transfer)))
      (goes_on true p incoming outgoing sound.limit_least s t l r.kept r.count (Answered a) (longword_of (Answered a))
      (flags_only p.limit l.command s.run a x.unspent x.stays)
      (live_halts true p s.run l sound.halts) (live_well true p s.run l sound.well) (done q a) x.progress)

  -- whoever finds the operation and reads the reply finds that it closes nothing
  slowest_open : (s : State) (l : Live true p s.run) (c : Command) (x : Reply) (rest : List Visit) → WaitsAt p s.run c rest
      → reply_of (slowest_reply p.limit (qmode_of l.command.transfer) s.run) ≡ some x → closed_by c.transfer x ≡ false
  slowest_open s l c x rest w f =
      let q : QMode = qmode_of l.command.transfer in
      let a : Reply = Answered (slowest_answer (slowest_at p.limit q s.run)) in
      let commands : l.command ≡ c = (waits_once (live_waits true p s.run sound.distinct l) w).0 in
      let some_same : some a ≡ some x = sym (slowest_formed p.limit q s.run) ∙ f in
      let replies : a ≡ x = cc in
      sym (ap₂ (λ (d : Command) (y : Reply). closed_by d.transfer y) commands replies)
      ∙ (slowest_here s l).closes_none (is_block l.command.transfer)

  slowest_step : (s : State) (t : ℕ) → AtSlowest s t → (l : Live true p s.run)
      → ((step_of list s (slowest_reply p.limit (qmode_of l.command.transfer) s.run)).refusal.number ≡ 0)
      × AtSlowest (step_of list s (slowest_reply p.limit (qmode_of l.command.transfer) s.run)).state (t + 1)
  slowest_step s t r l =
      let q : QMode = qmode_of l.command.transfer in
      rw (
        step_live list incoming outgoing p prepared sound true s r.kept l (slowest_reply p.limit q s.run),
        slowest_formed
            p.limit q s.run,
      )
      (refl, rw (take_live true p s sound l (Answered (slowest_answer (slowest_at p.limit q s.run)))) (slowest_take s t r l))

  -- m replies that end the run
  record ToEnd (s : State) (m : ℕ) : Type 0 where
    pub replies : List (List ℕ)
    pub none_refused : NoneRefused list s replies
    pub none_closes : NoneCloses p list s replies
    pub made : length replies ≡ m
    pub over : Over true p (after_replies list s replies).run

  to_end : (m : ℕ) (s : State) (t : ℕ) → AtSlowest s t → t + m ≡ worst_over p.limit p.visits → ToEnd s m
  unfolding after_replies
  to_end zero s t r e = by_stage r.stage
    where
      by_stage : Live true p s.run ⊎ Over true p s.run → ToEnd s 0
      by_stage (inl l) = absurd (omega (arith, l.bound, r.count, live_some true p s.run l))
      by_stage (inr v) = record { replies = []; none_refused = tt; none_closes = tt; made = refl; over = v }
  to_end (suc m) s t r e = by_stage r.stage (λ s' r'. to_end m s' (t + 1) r' (omega arith))
    where
      by_stage : Live true p s.run ⊎ Over true p s.run → ((s' : State) → AtSlowest s' (t + 1) → ToEnd s' m) → ToEnd s (suc m)
      by_stage (inr v) ih = absurd (omega (arith, v.within, r.count))
      by_stage (inl l) ih =
          let x = slowest_step s t r l in
          let y = ih _ x.1 in
          record {
            replies = slowest_reply p.limit (qmode_of l.command.transfer) s.run ∷ y.replies;
            none_refused = (x.0, y.none_refused);
            none_closes = (slowest_open s l, y.none_closes);
            made = ap suc y.made;
            over = y.over;
          }

  attained : Attained list (start_state list incoming outgoing) (counts_of p)
  unfolding counts_of
  attained =
      let begins = start_reached list incoming outgoing p prepared sound true in
      let x = to_end (worst_over p.limit p.visits) (start_state list incoming outgoing) 0 begins (omega arith) in
      let clean = x.over.clean refl in
      record {
        replies = x.replies;
        plan = p;
        prepared = prepared_still list incoming outgoing p prepared sound true (start_state list incoming outgoing) begins.kept;
        none_closes = x.none_closes;
        none_refused = x.none_refused;
        made = x.made;
        ends = x.over.over;
        code = clean.0;
        mark_in = ap (λ (m : Marks). m.incoming) clean.1;
        mark_out = ap (λ (m : Marks). m.outgoing) clean.1;
      }

-- over the bytes of a list
pub worst_reached : (list incoming outgoing : List ℕ) (c : Counts) → Bytes list → admit_of list (length incoming) (length outgoing) ≡ Admitted c
    → Attained list (start_state list incoming outgoing) c
worst_reached list incoming outgoing c bytes admitted =
    let a = admitted_plan list (length incoming) (length outgoing) c admitted in
    subst (λ (x : Counts). Attained list (start_state list incoming outgoing) x) a.counts
    (attained list incoming outgoing a.plan a.prepared (prepared_sound list (length incoming) (length outgoing) a.plan bytes a.prepared))
