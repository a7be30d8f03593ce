-- A run has ended exactly when it met halt or a cause, and its status has the code. A row of replies is taken by its last one: before it the
-- run waits at an operation, and the reply either is a cause, or finishes the last operation before the halt, or leaves the run waiting.
use Prim.Native.Nat.{ℕ, suc, ◌+◌, ◌-◌, ◌*◌, ◌^◌}
use mathlib.Core.Path.{◌≡◌, refl, sym, ap, ap₂, ◌∙◌, subst}
use mathlib.Core.Logic.{◌⊎◌, inl, inr}
use mathlib.Core.Bool.{Bool, true, false, ◌&&◌, true≢false}
use mathlib.Core.List.{List, [], ◌∷◌, ◌++◌}
use mathlib.Core.Option.{some}
use native.Mathlib.Omega.{arith}
use lib.Dec.{eqb}
use lib.Bits.{bit_or}
use lib.ListN.{length}
use Rattle.std.specs.Prelude.{if◌then◌else◌}
use Rattle.base.specs.Checks.{bit}
use Rattle.camac.specs.Words.{qmode_of}
use Rattle.camac.specs.declared.words.Command.{Command}
use Rattle.base.proofs.Bools.{both, and_left, and_right}
use Rattle.base.proofs.Tests.{on}
use Rattle.listfile.specs.declared.field.Instruction.{Instruction}
use Rattle.listfile.specs.declared.field.Instruction.TheVariants.{Camac, Jump, Literal, Halt}
use Rattle.walk.specs.Walk.{Visit}
use Rattle.walk.specs.Admission.{Plan, ready, prepare}
use Rattle.walk.proofs.Halting.{Halts}
use Rattle.reply.specs.Replies.{reply_of}
use Rattle.reply.specs.Causes.{done_by, causes_of, greatest, code_of, only_nine}
use Rattle.reply.specs.Status.{flags_of, code_in}
use Rattle.reply.specs.Effect.{State, with_run, ended_at, waits_for, put_literal, run_on, moved_record, move_word, counted, waiting, longword_of, go_on, by_causes, take_reply, state_of, zero_record}
use Rattle.qmodes.specs.Modes.{left_undone, left_after}
use Rattle.calls.specs.Calls.{begun, step_of}
use Rattle.reply.specs.declared.records.Record.{Record}
use Rattle.reply.specs.declared.replies.Reply.{Reply}
use Rattle.worst_count.specs.WorstCount.{Calls, after_replies, halts_first, WaitsAt, finishes, Met, halt_at_start, halt_after, a_cause, Ended, start_state, NoneRefused}
use Rattle.worst_count.proofs.StatusBits.{Clear, clear_zero, only_clear, clear_gathered, clear_code, clear_bit, ended_code, ended_bit}
use Rattle.worst_count.proofs.Live.{Live, live_halts, waits_once, live_waits}
use Rattle.worst_count.proofs.RunOn.{Over}
use Rattle.reply.proofs.CodeCases.{cause_numbered}
use Rattle.worst_count.proofs.Admitted.{SoundPlan}
use Rattle.worst_count.proofs.Sequences.{calls_end, calls_taken, start_state_lem, step_taken, row_reached}
use Rattle.walk.specs.declared.visits.Spot.{Spot}

-- What one reply does ----------------------------------------------------------------------------------------------------

-- ended, with these flags and this code
record EndedWith (flags code : ℕ) (s : State) : Type 0 where
  pub over : s.run.ended ≡ true
  pub status : s.run.status ≡ bit_or flags (code * 2 ^ 28 + 2 ^ 7)

-- on along the walk: ended by the halt where it comes first, else waiting
data Onward (first : Bool) (flags : ℕ) (s : State) : Type 0 where
  waits_on : first ≡ false → s.run.ended ≡ false → Onward first flags s
  meets_halt : first ≡ true → EndedWith flags 0 s → Onward first flags s

abbrev OnWalk : List Visit → Type 0
OnWalk vs = (s : State) → Halts vs → Onward (halts_first vs) s.run.status (run_on vs s)

at_visit : (k : Spot) (place : ℕ) (i : Instruction) (vs : List Visit) → OnWalk vs → OnWalk (record { spot = k; place = place; instruction = i } ∷ vs)
unfolding run_on waits_for ended_at put_literal halts_first
at_visit k place (Camac c) vs ih s h = waits_on refl refl
at_visit k place (Jump target) vs ih s h = ih s h
at_visit k place (Literal x) vs ih s h = ih (put_literal x s) h
at_visit k place Halt vs ih s h = meets_halt refl (record { over = refl; status = refl })

runs_onward : (vs : List Visit) → OnWalk vs
runs_onward [] s h = absurd h
runs_onward (v ∷ vs) s h = at_visit v.spot v.place v.instruction vs (runs_onward vs) s h

-- no cause: the halt where the instruction is finished and halt comes first on the walk after it
goes_onward : (rest : List Visit) → Halts rest → (c : Command) (is_done : Bool) (word : ℕ) (s : State)
    → Onward (eqb (left_after (qmode_of c.transfer) is_done s.run.left) 0 && halts_first rest) s.run.status (go_on rest c is_done word s)
unfolding go_on move_word moved_record waiting
goes_onward rest hr c true word s =
    on (eqb (s.run.left - 1) 0) (λ e. rw e (runs_onward rest (move_word c word s) hr)) (λ e. rw e (waits_on refl refl))
goes_onward rest hr c false word s =
    on (eqb (left_undone (qmode_of c.transfer) s.run.left) 0) (λ e. rw e (runs_onward rest s hr)) (λ e. rw e (waits_on refl refl))

ends_with : (rest : List Visit) (c : Command) (is_done : Bool) (word code : ℕ) (codes : List ℕ) (s : State)
    (n : ℕ) → greatest (code ∷ codes) ≡ n → EndedWith s.run.status n (by_causes (code ∷ codes) rest c is_done word s)
unfolding by_causes ended_at move_word moved_record
ends_with rest c is_done word code codes s n e =
    subst (λ (x : ℕ). EndedWith s.run.status x (by_causes (code ∷ codes) rest c is_done word s)) e (go (is_done && only_nine (code ∷ codes)))
  where
    go : (b : Bool) → EndedWith s.run.status (greatest (code ∷ codes))
        (with_run (ended_at s.run.spot (greatest (code ∷ codes)) (if b then move_word c word s else s).run) (if b then move_word c word s else s))
    go true = record { over = refl; status = refl }
    go false = record { over = refl; status = refl }

-- whether a reply finishes the last operation before the halt
abbrev is_last : List Visit → Command → Reply → Record → Bool
is_last rest c x r = finishes c x r.left && halts_first rest

-- what a reply taken at an operation did
data Took (rest : List Visit) (limit : ℕ) (c : Command) (x : Reply) (s s' : State) : Type 0 where
  goes : code_of limit c s.run x ≡ 0 → is_last rest c x s.run ≡ false → s'.run.ended ≡ false → Took rest limit c x s s'
  halts : code_of limit c s.run x ≡ 0 → is_last rest c x s.run ≡ true → EndedWith (bit_or s.run.status (flags_of limit c s.run x)) 0 s'
      → Took rest limit c x s s'
  causes : (code : ℕ) → code_of limit c s.run x ≡ suc code → EndedWith (bit_or s.run.status (flags_of limit c s.run x)) (suc code) s'
      → Took rest limit c x s s'

takes : (rest : List Visit) → Halts rest → (limit : ℕ) (c : Command) (x : Reply) (s : State)
    → Took rest limit c x s (take_reply limit rest c x s)
unfolding take_reply by_causes counted code_of
takes rest hr limit c x s = by_row (causes_of limit c s.run x) refl
  where
    now : State
    now = with_run (counted limit c x s.run) s

    onward : code_of limit c s.run x ≡ 0 → Onward (is_last rest c x s.run) now.run.status
        (go_on rest c (done_by (qmode_of c.transfer) x) (longword_of x) now)
        → Took rest limit c x s (go_on rest c (done_by (qmode_of c.transfer) x) (longword_of x) now)
    onward q (waits_on b f) = goes q b f
    onward q (meets_halt b f) = halts q b f

    by_row : (codes : List ℕ) → causes_of limit c s.run x ≡ codes
        → Took rest limit c x s (by_causes codes rest c (done_by (qmode_of c.transfer) x) (longword_of x) now)
    by_row [] q = onward (rw q) (goes_onward rest hr c (done_by (qmode_of c.transfer) x) (longword_of x) now)
    by_row (code ∷ codes) q =
        let one : greatest (code ∷ codes) ≡ suc (greatest (code ∷ codes) - 1) = omega (arith, cause_numbered limit c s.run x q) in
        causes (greatest (code ∷ codes) - 1) (rw q one)
        (ends_with rest c (done_by (qmode_of c.transfer) x) (longword_of x) code codes now _ one)

-- A row by its last reply ------------------------------------------------------------------------------------------------

data Snoc : List (List ℕ) → Type 0 where
  empty : Snoc []
  snoc : (rs : List (List ℕ)) (r : List ℕ) → Snoc (rs ++ r ∷ [])

by_last : (rs : List (List ℕ)) → Snoc rs
by_last [] = empty
by_last (r ∷ rs) = more (by_last rs)
  where
    more : {rs : List (List ℕ)} → Snoc rs → Snoc (r ∷ rs)
    more empty = snoc [] r
    more (snoc rs x) = snoc (r ∷ rs) x

taken_last : (list : List ℕ) (s : State) (rs : List (List ℕ)) (r : List ℕ) → NoneRefused list s (rs ++ r ∷ [])
    → NoneRefused list s rs × ((step_of list (after_replies list s rs) r).refusal.number ≡ 0)
unfolding after_replies
taken_last list s [] r h = (tt, h.0)
taken_last list s (a ∷ rs) r h = let x = taken_last list (step_of list s a).state rs r h.1 in ((h.0, x.0), x.1)

after_last : (list : List ℕ) (s : State) (rs : List (List ℕ)) (r : List ℕ)
    → after_replies list s (rs ++ r ∷ []) ≡ (step_of list (after_replies list s rs) r).state
unfolding after_replies
after_last list s [] r = refl
after_last list s (a ∷ rs) r = after_last list (step_of list s a).state rs r

module _ (list incoming outgoing : List ℕ) (p : Plan) (prepared : prepare list (length incoming) (length outgoing) ≡ ready p)
    (sound : SoundPlan p) where
  abbrev start : State
  start = start_state list incoming outgoing

  abbrev after : List (List ℕ) → State
  after rs = after_replies list start rs

  -- what the last reply did
  record Last (rs : List (List ℕ)) (r : List ℕ) : Type 0 where
    pub command : Command
    pub reply : Reply
    pub rest : List Visit
    pub formed : reply_of r ≡ some reply
    pub at : WaitsAt p (after rs).run command rest
    pub clear : Clear (bit_or (after rs).run.status (flags_of p.limit command (after rs).run reply))
    pub took : Took rest p.limit command reply (after rs) (after (rs ++ r ∷ []))

  last_reply : (rs : List (List ℕ)) (r : List ℕ) → NoneRefused list start (rs ++ r ∷ []) → Last rs r
  last_reply rs r h =
      let parts = taken_last list start rs r h in
      let x = step_taken list incoming outgoing p prepared sound (after rs) (length rs)
      (row_reached list incoming outgoing p prepared sound rs parts.0) r parts.1 in
      let l : Live false p (after rs).run = x.live in
      record {
        command = l.command;
        reply = x.answer;
        rest = l.post;
        formed = x.formed;
        at = live_waits false p (after rs).run sound.distinct l;
        clear = clear_gathered p.limit l.command (after rs).run x.answer (only_clear _ l.status);
        took = subst (λ (s : State). Took l.post p.limit l.command x.answer (after rs) s) (sym (after_last list start rs r ∙ x.state))
            (takes l.post (live_halts false p (after rs).run l sound.halts) p.limit l.command x.answer (after rs));
      }

  -- what the record says after a row of replies
  data Says (rs : List (List ℕ)) : Type 0 where
    waits : (after rs).run.ended ≡ false → Clear (after rs).run.status → Says rs
    over : (flags code : ℕ) → Clear flags → EndedWith flags code (after rs) → Met list p start rs code → Says rs

  -- halt at the start
  at_start : Onward (halts_first p.visits) 0 start
  unfolding begun
  at_start = subst (λ (s : State). Onward (halts_first p.visits) 0 s) (sym (start_state_lem list incoming outgoing p prepared sound))
      (runs_onward p.visits (state_of (zero_record false) incoming outgoing) sound.halts)

  says : (rs : List (List ℕ)) → NoneRefused list start rs → Says rs
  unfolding after_replies
  says rs h = by_stage (row_reached list incoming outgoing p prepared sound rs h).stage
    where
      at_end : (rs : List (List ℕ)) → Snoc rs → NoneRefused list start rs → (after rs).run.ended ≡ true → Says rs
      at_end _ empty h e = first at_start
        where
          first : Onward (halts_first p.visits) 0 start → Says []
          first (waits_on b f) = absurd (true≢false (sym e ∙ f))
          first (meets_halt b f) = over 0 0 clear_zero f (halt_at_start b)
      at_end _ (snoc rs r) h e = by_took l.took
        where
          l : Last rs r
          l = last_reply rs r h

          by_took : Took l.rest p.limit l.command l.reply (after rs) (after (rs ++ r ∷ [])) → Says (rs ++ r ∷ [])
          by_took (goes q b f) = absurd (true≢false (sym e ∙ f))
          by_took (halts q b f) =
              over _ 0 l.clear f (halt_after rs r l.command l.reply l.rest l.at l.formed q (and_left _ _ b)
              (and_right (finishes l.command l.reply (after rs).run.left) _ b))
          by_took (causes c q f) = over _ (suc c) l.clear f (a_cause rs r l.command l.reply l.rest c l.at l.formed q)

      by_stage : Live false p (after rs).run ⊎ Over false p (after rs).run → Says rs
      by_stage (inl l) = waits l.waits (only_clear _ l.status)
      by_stage (inr v) = at_end rs (by_last rs) h v.over

  -- anyone who finds the operation and reads the reply finds the same
  same_last : (rs : List (List ℕ)) (r : List ℕ) (l : Last rs r) (c : Command) (x : Reply) (rest : List Visit) → WaitsAt p (after rs).run c rest
      → reply_of r ≡ some x
      → (code_of p.limit l.command (after rs).run l.reply ≡ code_of p.limit c (after rs).run x)
      × (is_last l.rest l.command l.reply (after rs).run ≡ is_last rest c x (after rs).run)
  same_last rs r l c x rest w f =
      let one = waits_once l.at w in
      let commands : l.command ≡ c = one.0 in
      let rests : l.rest ≡ rest = one.1 in
      let some_same : some l.reply ≡ some x = sym l.formed ∙ f in
      let replies : l.reply ≡ x = cc in (
        ap₂ (λ (a : Command) (y : Reply). code_of p.limit a (after rs).run y) commands replies,
        ap₂ (λ (d : Bool) (v : List Visit). d && halts_first v)
            (ap₂ (λ (a : Command) (y : Reply). finishes a y (after rs).run.left) commands replies) rests,
      )

  abbrev EndedBy : List (List ℕ) → ℕ → Type 0
  EndedBy rs code = ((after rs).run.ended ≡ true) × (code_in (after rs).run.status ≡ code)

  ended_by : (rs : List (List ℕ)) (flags code : ℕ) → Clear flags → EndedWith flags code (after rs) → EndedBy rs code
  ended_by rs flags code clear e = (e.over, ap code_in e.status ∙ ended_code flags clear code)

  when_met : (rs : List (List ℕ)) (code : ℕ) → NoneRefused list start rs → Met list p start rs code → EndedBy rs code
  unfolding after_replies
  when_met _ _ h (halt_at_start q) = first at_start
    where
      first : Onward (halts_first p.visits) 0 start → (start.run.ended ≡ true) × (code_in start.run.status ≡ 0)
      first (waits_on b f) = absurd (true≢false (sym q ∙ b))
      first (meets_halt b f) = (f.over, ap code_in f.status ∙ ended_code 0 clear_zero 0)
  when_met _ _ h (halt_after rs r c x rest w f q e b) = by_took l.took
    where
      l : Last rs r
      l = last_reply rs r h

      same : (code_of p.limit l.command (after rs).run l.reply ≡ code_of p.limit c (after rs).run x)
          × (is_last l.rest l.command l.reply (after rs).run ≡ is_last rest c x (after rs).run)
      same = same_last rs r l c x rest w f

      is_last_lem : is_last rest c x (after rs).run ≡ true
      is_last_lem = both e b

      by_took : Took l.rest p.limit l.command l.reply (after rs) (after (rs ++ r ∷ [])) → EndedBy (rs ++ r ∷ []) 0
      by_took (goes z b' g) = absurd (true≢false (sym is_last_lem ∙ sym same.1 ∙ b'))
      by_took (halts z b' g) = ended_by (rs ++ r ∷ []) _ 0 l.clear g
      by_took (causes code z g) = absurd (omega (arith, same.0, z, q))
  when_met _ _ h (a_cause rs r c x rest code w f q) = by_took l.took
    where
      l : Last rs r
      l = last_reply rs r h

      same : code_of p.limit l.command (after rs).run l.reply ≡ suc code
      same = (same_last rs r l c x rest w f).0 ∙ q

      by_took : Took l.rest p.limit l.command l.reply (after rs) (after (rs ++ r ∷ [])) → EndedBy (rs ++ r ∷ []) (suc code)
      by_took (goes z b g) = absurd (omega (arith, same, z))
      by_took (halts z b g) = absurd (omega (arith, same, z))
      by_took (causes code' z g) = let x = ended_by (rs ++ r ∷ []) _ (suc code') l.clear g in (x.0, x.1 ∙ sym z ∙ same)

  row_ended : (rs : List (List ℕ)) → NoneRefused list start rs → Ended list p start rs (after rs)
  row_ended rs h = by_record (says rs h)
    where
      by_record : Says rs → Ended list p start rs (after rs)
      by_record (waits f c) = record {
        when_met = λ code m. when_met rs code h m;
        met_when = λ e. absurd (true≢false (sym e ∙ f));
        bit_seven = clear_bit _ c ∙ sym f;
        no_code = λ e. clear_code _ c;
      }
      by_record (over flags code c e m) =
          let said : code_in (after rs).run.status ≡ code = (ended_by rs flags code c e).1 in
          record {
            when_met = λ code m. when_met rs code h m;
            met_when = λ f. subst (λ (n : ℕ). Met list p start rs n) (sym said) m;
            bit_seven = ap (bit 7) e.status ∙ ended_bit flags c code ∙ sym e.over;
            no_code = λ f. absurd (true≢false (sym e.over ∙ f));
          }

  pub calls_ended : (rs : List (List ℕ)) (s : State) → Calls list start rs s → Ended list p start rs s
  calls_ended rs s c = subst (λ (x : State). Ended list p start rs x) (sym (calls_end c)) (row_ended rs (calls_taken c))
