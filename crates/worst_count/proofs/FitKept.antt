-- The laws that code cites: a run's record fits as long as it waits, from the start or from any record that fits, and what holds there of the
-- numbers of the record. A record that fits is live, and the invariant is kept from there as from the start.
use Prim.Native.Nat.{ℕ, ◌+◌, ◌≤◌, ◌<◌}
use mathlib.Core.Path.{◌≡◌, refl, sym, ◌∙◌, subst}
use mathlib.Core.Logic.{◌⊎◌, inl, inr}
use mathlib.Core.Bool.{Bool, true, false, true≢false}
use mathlib.Core.List.{List}
use native.Mathlib.Omega.{arith}
use lib.ListN.{length, get_or}
use Rattle.camac.specs.Words.{qmode_of, words_of, position_of}
use Rattle.qmodes.specs.declared.modes.QMode.{QMode}
use Rattle.qmodes.specs.declared.modes.QMode.TheVariants.{Stop, Ignore, Repeat, Scan}
use Rattle.camac.specs.declared.words.Command.{Command}
use Rattle.packing.specs.model.Marks.{EvenMarks}
use Rattle.walk.specs.Walk.{Visit, moved}
use Rattle.walk.specs.Worst.{worst_over}
use Rattle.walk.specs.Admission.{Plan, ready, prepare}
use Rattle.walk.proofs.MarksGrow.{BelowMarks}
use Rattle.reply.specs.Replies.{reply_of}
use Rattle.reply.specs.Status.{waiting_bits}
use Rattle.reply.specs.Effect.{State}
use Rattle.calls.specs.Fit.{fits}
use Rattle.calls.specs.Calls.{begun, take_at, step_reply, step_of}
use Rattle.reply.specs.declared.records.Record.{Record}
use Rattle.reply.specs.declared.replies.Reply.{Reply}
use Rattle.qmodes.proofs.MostFalls.{TriesOk, PositionOk}
use Rattle.worst_count.specs.WorstCount.{WaitsAt}
use Rattle.worst_count.proofs.StatusBits.{only_le}
use Rattle.worst_count.proofs.Live.{near_le, Live, live_under, waits_once, fits_live, live_waits, live_fits}
use Rattle.worst_count.proofs.RunOn.{last_marks, Over, Reached}
use Rattle.worst_count.proofs.Move.{next_below, live_some}
use Rattle.worst_count.proofs.Take.{takes}
use Rattle.worst_count.proofs.Admitted.{SoundPlan}
use Rattle.worst_count.proofs.Sequences.{begun_reached, take_live, step_live}

-- Fit along a run --------------------------------------------------------------------------------------------------------

-- a record that fits is reached, by the run that begins with it
pub fits_reached : (p : Plan) (s : State) → fits p s.run ≡ true → Reached false p s.incoming s.outgoing s s.run.operations
fits_reached p s h = record {
  count = refl;
  kept = record { same_length = refl; beyond = λ i g. refl; same_outgoing = refl };
  stage = inl (fits_live p s.run h);
}

-- every record reached by a run that waits fits
pub reached_fits : (p : Plan) → SoundPlan p → {incoming outgoing : List ℕ} {s : State} {t : ℕ} → Reached false p incoming outgoing s t
    → s.run.ended ≡ false
    → fits p s.run ≡ true
reached_fits p sound {s = s} r e = by_stage r.stage
  where
    by_stage : Live false p s.run ⊎ Over false p s.run → fits p s.run ≡ true
    by_stage (inl l) = live_fits false p s.run sound.distinct l
    by_stage (inr v) = absurd (true≢false (sym v.over ∙ e))

reached_within : (p : Plan) {incoming outgoing : List ℕ} {s : State} {t : ℕ} → Reached false p incoming outgoing s t
    → t ≤ worst_over p.limit p.visits
reached_within p {s = s} {t = t} r = by_stage r.stage
  where
    by_stage : Live false p s.run ⊎ Over false p s.run → t ≤ worst_over p.limit p.visits
    by_stage (inl l) = omega (arith, l.bound, r.count)
    by_stage (inr v) = omega (arith, v.within, r.count)

-- a state that has ended or fits, after so many operations, with the buffers as they were but for incoming bytes below B
pub record FitKept (p : Plan) (incoming outgoing : List ℕ) (operations : ℕ) (s : State) : Type 0 where
  pub ended_or_fits : (s.run.ended ≡ true) ⊎ (fits p s.run ≡ true)
  pub count : s.run.operations ≡ operations
  pub within : operations ≤ worst_over p.limit p.visits
  pub same_length : length s.incoming ≡ length incoming
  pub beyond : (i : ℕ) → (last_marks p).incoming ≤ i → get_or s.incoming i 0 ≡ get_or incoming i 0
  pub same_outgoing : s.outgoing ≡ outgoing

module _ (p : Plan) (sound : SoundPlan p) where
  -- after every row of replies taken, from the start or from a record that fits
  pub reached_kept : {incoming outgoing : List ℕ} {s : State} {t : ℕ} → Reached false p incoming outgoing s t → FitKept p incoming outgoing t s
  reached_kept {s = s} r = record {
    ended_or_fits = by_end s.run.ended refl;
    count = r.count;
    within = reached_within p r;
    same_length = r.kept.same_length;
    beyond = r.kept.beyond;
    same_outgoing = r.kept.same_outgoing;
  }
    where
      by_end : (b : Bool) → s.run.ended ≡ b → (s.run.ended ≡ true) ⊎ (fits p s.run ≡ true)
      by_end true e = inl e
      by_end false e = inr (reached_fits p sound r e)

  -- at the start
  pub fit_begun : (incoming outgoing : List ℕ) → FitKept p incoming outgoing 0 (begun p incoming outgoing)
  fit_begun incoming outgoing = reached_kept (begun_reached false p sound incoming outgoing)

  -- after a reply taken at a record that fits
  pub fit_kept : (s : State) → fits p s.run ≡ true → (reply : Reply)
      → FitKept p s.incoming s.outgoing (s.run.operations + 1) (take_at p reply s)
  fit_kept s h reply =
      let l = fits_live p s.run h in
      let r = fits_reached p s h in
      rw (take_live false p s sound l reply)
      (reached_kept (takes p s.incoming s.outgoing sound.limit_least sound.halts sound.well s s.run.operations l
      r.kept refl reply))

  -- a step at a record that fits goes by its reply alone
  pub step_fits : (list : List ℕ) (s : State) → prepare list (length s.incoming) (length s.outgoing) ≡ ready p → fits p s.run ≡ true
      → (reply : List ℕ)
      → step_of list s reply ≡ step_reply p (reply_of reply) s
  step_fits list s prepared h reply =
      step_live list s.incoming s.outgoing p prepared sound false s (fits_reached p s h).kept (fits_live p s.run h) reply

-- Numbers of a record that fits ------------------------------------------------------------------------------------------

-- at the CAMAC instruction at which it waits
pub record FitNumbers (p : Plan) (r : Record) (c : Command) : Type 0 where
  pub waits : r.ended ≡ false
  pub left_least : 1 ≤ r.left
  pub left_most : r.left ≤ words_of c.transfer
  pub tries : TriesOk p.limit (qmode_of c.transfer) r.tries
  pub tries_most : r.tries < p.limit
  pub position : PositionOk (qmode_of c.transfer) (position_of c.transfer) r.position
  pub operations_most : r.operations < worst_over p.limit p.visits
  pub status_most : r.status ≤ waiting_bits
  -- the marks after the next word
  pub next_marks : BelowMarks (moved c r.marks) (last_marks p)
  pub even : EvenMarks r.marks

tries_below : (limit : ℕ) (q : QMode) (tries : ℕ) → 1 ≤ limit → TriesOk limit q tries → tries < limit
tries_below limit Stop tries h e = omega arith
tries_below limit Ignore tries h e = omega arith
tries_below limit Repeat tries h e = e
tries_below limit Scan tries h e = omega arith

pub live_numbers : (slow : Bool) (p : Plan) (r : Record) → SoundPlan p → (l : Live slow p r) → FitNumbers p r l.command
live_numbers slow p r sound l = record {
  waits = l.waits;
  left_least = l.some;
  left_most = l.most;
  tries = l.tried;
  position = l.position;
  tries_most = tries_below p.limit (qmode_of l.command.transfer) r.tries sound.limit_least l.tried;
  operations_most = omega (arith, near_le slow _ _ l.bound, live_some slow p r l);
  status_most = only_le waiting_bits r.status l.status;
  next_marks = next_below slow p r l;
  even = (live_under slow p r l).even;
}

pub fits_numbers : (p : Plan) → SoundPlan p → (r : Record) → fits p r ≡ true → {c : Command} {rest : List Visit} → WaitsAt p r c rest
    → FitNumbers p r c
fits_numbers p sound r h w =
    let l = fits_live p r h in
    subst (λ (x : Command). FitNumbers p r x) (waits_once (live_waits false p r sound.distinct l) w).0 (live_numbers false p r sound l)
