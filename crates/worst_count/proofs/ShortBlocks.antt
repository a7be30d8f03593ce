-- The run over the walk p is followed by one over the walk q on which the block asks for k words: the same before the block, with other words
-- left in it, past it when the kth word is moved, where p's waits for y; y closes the block, and both go on alike from the same marks and bytes.
use Prim.Native.Nat.{ℕ, ◌+◌, ◌-◌, ◌≤◌, ◌<◌}
use mathlib.Core.Path.{◌≡◌, refl, sym, ap, ◌∙◌, subst}
use mathlib.Core.Logic.{◌⊎◌, inl, inr}
use mathlib.Core.Bool.{false}
use mathlib.Core.List.{List, [], ◌∷◌, ◌++◌, append_assoc}
use native.Mathlib.Omega.{arith}
use borrow.Author.Tests.{eqb-true, eqb-false}
use lib.Dec.{eqb}
use lib.ListN.{length, length-append}
use lib.Seq.{append_snoc}
use Rattle.base.proofs.Tests.{on, true_not_false}
use Rattle.camac.specs.Words.{qmode_of, words_of, direction_of}
use Rattle.camac.specs.declared.words.Command.{Command}
use Rattle.listfile.specs.declared.field.Instruction.{Instruction}
use Rattle.listfile.specs.declared.field.Instruction.TheVariants.{Camac, Jump, Literal, Halt}
use Rattle.qmodes.specs.declared.modes.QMode.TheVariants.{Stop}
use Rattle.walk.specs.Walk.{Visit, moved}
use Rattle.walk.specs.Admission.{Plan}
use Rattle.walk.specs.declared.visits.Spot.{Spot}
use Rattle.walk.proofs.Halting.{Distinct, Halts, halts_after}
use Rattle.reply.specs.Causes.{done_by, causes_of}
use Rattle.reply.specs.Effect.{State, zero_record, state_of, with_run, ended_at, waits_for, put_literal, run_on}
use Rattle.reply.specs.Effect.{moved_record, moved_bytes, move_word, counted, waiting, take_reply}
use Rattle.reply.specs.declared.records.Record.{Record}
use Rattle.reply.specs.declared.replies.Reply.{Reply}
use Rattle.calls.specs.Calls.{begun, take_at}
use Rattle.worst_count.specs.ShortBlocks.{along, asking, short_visit, bare, ShortBlock, declared, Shortened, none_more, one_more, ShortBlocks}
use Rattle.worst_count.proofs.Live.{camac_visit}
use Rattle.worst_count.proofs.Admitted.{prepared_sound}
use Rattle.worst_count.proofs.Bare.{carried, runs_alike, same_note, takes_alike}
use Rattle.worst_count.proofs.CommonEnd.{ahead_once, takes_at, along_over, along_on, Taken, ends, waits, goes, taken}
use Rattle.worst_count.proofs.CommonEnd.{Past, over, later, runs_past, past_takes, ends_alike}
use Rattle.worst_count.proofs.BlockReplies.{closing, Asks, asks, asking_for, short_none, short_some, distinct_short, halts_short}
use Rattle.worst_count.proofs.BlockReplies.{no_code, stop_causes, word_moved, closed, last_word, more_words, Word, block_takes}

-- with other words left
abbrev with_left : ℕ → State → State
with_left left s = record {
  run = record {
    ended = s.run.ended;
    spot = s.run.spot;
    left = left;
    tries = s.run.tries;
    position = s.run.position;
    marks = s.run.marks;
    operations = s.run.operations;
    status = s.run.status;
    note = s.run.note;
  };
  incoming = s.incoming;
  outgoing = s.outgoing;
}

module _ (limit : ℕ) (before : List Visit) (here : Spot) (place : ℕ) (c : Command) (after : List Visit) (k : ℕ) where
  abbrev v : Visit
  v = camac_visit here place c

  abbrev words : ℕ
  words = words_of c.transfer

  abbrev mid : List Visit
  mid = short_visit k v c

  abbrev p : Plan
  p = record { limit = limit; visits = before ++ v ∷ after }

  abbrev q : Plan
  q = record { limit = limit; visits = before ++ (mid ++ after) }

  -- a run that comes to k words moved no more
  data Beyond (s : State) : Type 0 where
    past : Past after s → Beyond s
    fewer : s.run.spot ≡ here → s.run.left < words - k → Beyond s

  -- How the run over p, in s, and the run over q, in t, stand to each other: both at an instruction before the block; j words moved, fewer than
  -- k; k words moved, and the run over q past the block; or too far for k words moved to come.
  data Stage (s t : State) : Type 0 where
    early : (pre : List Visit) (place' : ℕ) (d : Command) (post : List Visit) → before ≡ pre ++ camac_visit s.run.spot place' d ∷ post
        → t ≡ s → Stage s t
    within : (j : ℕ) → j < k → s.run.spot ≡ here → s.run.left ≡ words - j → bare t ≡ bare (with_left (k - j) s) → Stage s t
    full : s.run.spot ≡ here → s.run.left ≡ words - k → bare t ≡ bare (run_on after s) → Stage s t
    beyond : Beyond s → Stage s t

  module _ (d : Distinct (before ++ v ∷ after)) (h : Halts after) (stop : qmode_of c.transfer ≡ Stop)
      (a : Asks k c.transfer (asking k c.transfer)) where
    d' : Distinct q.visits
    d' = distinct_short v c after k before d

    first : p.visits ≡ (before ++ v ∷ []) ++ after
    first = sym (append_snoc before v after)

    joined : (pre : List Visit) (u : Visit) (post : List Visit) → before ≡ pre ++ u ∷ post → (l : List Visit) → before ++ l ≡ pre ++ u ∷ (post ++ l)
    joined pre u post cut l = ap (λ (m : List Visit). m ++ l) cut ∙ append_assoc pre (u ∷ post) l

    at_block : (s : State) → s.run.spot ≡ here → (x : Reply) → take_at p x s ≡ take_reply limit after c x s
    at_block s e x = takes_at p d before place c after s (ap (λ (i : Spot). before ++ camac_visit i place c ∷ after) (sym e)) x

    at_short : (t : State) → t.run.spot ≡ here → 0 < k → (x : Reply) → take_at q x t ≡ take_reply limit after (asking_for k c) x t
    at_short t e some x = takes_at q d' before place (asking_for k c) after t
        (ap (λ (l : List Visit). before ++ (l ++ after)) (short_some here place c k some)
        ∙ ap (λ (i : Spot). before ++ camac_visit i place (asking_for k c) ∷ after) (sym e)) x

    -- Beyond k words moved -------------------------------------------------------------------------------------------------

    block_beyond : (s : State) → s.run.spot ≡ here → s.run.left ≤ words - k → (x : Reply) → Beyond (take_at p x s)
    unfolding waiting move_word moved_record counted
    block_beyond s e l x = rw (at_block s e x) (by_reply (block_takes limit c stop after h x s))
      where
        by_reply : Past after (take_reply limit after c x s) ⊎ Word limit c x s → Beyond (take_reply limit after c x s)
        by_reply (inl b) = past b
        by_reply (inr w) = rw (more_words limit c stop after x s w.clear w.is_done w.more)
            (fewer e (omega (arith, eqb-false (s.run.left - 1) 0 w.more)))

    beyond_takes : (s : State) → s.run.ended ≡ false → Beyond s → (x : Reply) → Beyond (take_at p x s)
    beyond_takes s e (past b) x = past (past_takes after h p (before ++ v ∷ []) first d s e b x)
    beyond_takes s e (fewer i l) x = block_beyond s i (omega arith) x

    -- what is to come: y is taken with k words moved
    record Comes (y : Reply) (s : State) : Type 0 where
      going : s.run.ended ≡ false
      here_now : s.run.spot ≡ here
      moved_now : k ≡ words - s.run.left
      clear : causes_of limit c s.run y ≡ []

    module _ (y : Reply) where
      never : (xs : List Reply) (s : State) → Beyond s → Comes y (along p xs s) → ⊥
      unfolding along
      never [] s (past (over o)) g = true_not_false (sym o ∙ g.going)
      never [] s (past (later pre place' e post cut)) g =
          let u : Visit = camac_visit s.run.spot place' e in
          let same : length after ≡ length post =
          ahead_once p.visits before v after (before ++ v ∷ pre) u post d refl
          (ap (λ (l : List Visit). before ++ v ∷ l) cut ∙ sym (append_assoc before (v ∷ pre) (u ∷ post))) (sym g.here_now) in
          omega (arith, ap length cut ∙ length-append pre (u ∷ post))
      never [] s (fewer e l) g = omega (arith, g.moved_now)
      never (x ∷ xs) s b g = on s.run.ended
          (λ e. true_not_false (sym e ∙ (subst (Comes y) (along_over p (x ∷ xs) s e) g).going))
          (λ e. never xs (take_at p x s) (beyond_takes s e b x) (subst (Comes y) (along_on p x xs s e) g))

    -- From stage to stage --------------------------------------------------------------------------------------------------

    -- at the block
    reaches : (s : State) → Stage (run_on (v ∷ after) s) (run_on (mid ++ after) s)
    unfolding run_on waits_for
    reaches s = on (eqb k 0)
        (λ e. let none : k ≡ 0 = eqb-true k 0 e in
        rw (short_none here place c k none) (full refl (omega arith) (runs_alike after h s (with_run (waits_for here c s.run) s) refl)))
        (λ e. let some : 0 < k = omega (arith, eqb-false k 0 e) in
        let asked : words_of (asking k c.transfer) ≡ k - 0 = omega (arith, a.words) in
        rw (short_some here place c k some) (within 0 some refl (omega arith) (rw (asked, a.address))))

    -- along the visits before it
    arrives : (vs pre : List Visit) (s : State) → before ≡ pre ++ vs → Stage (run_on (vs ++ v ∷ after) s) (run_on (vs ++ (mid ++ after)) s)
    unfolding run_on waits_for ended_at
    arrives [] pre s e = reaches s
    arrives (u ∷ vs) pre s e = at u.instruction e (λ s'. arrives vs (pre ++ u ∷ []) s' (e ∙ sym (append_snoc pre u vs)))
      where
        at : (i : Instruction) → before ≡ pre ++ record { spot = u.spot; place = u.place; instruction = i } ∷ vs
            → ((s' : State) → Stage (run_on (vs ++ v ∷ after) s') (run_on (vs ++ (mid ++ after)) s'))
            → Stage (run_on (record { spot = u.spot; place = u.place; instruction = i } ∷ vs ++ v ∷ after) s)
            (run_on (record { spot = u.spot; place = u.place; instruction = i } ∷ vs ++ (mid ++ after)) s)
        at (Camac b) e ih = early pre u.place b vs e refl
        at (Jump target) e ih = ih s
        at (Literal x) e ih = ih (put_literal x s)
        at Halt e ih = beyond (past (over refl))

    early_takes : (s : State) (pre : List Visit) (place' : ℕ) (b : Command) (post : List Visit)
        → before ≡ pre ++ camac_visit s.run.spot place' b ∷ post → (x : Reply) → Stage (take_at p x s) (take_at q x s)
    early_takes s pre place' b post cut x =
        rw (
          takes_at p d pre place' b (post ++ v ∷ after) s (joined pre u post cut (v ∷ after)) x,
          takes_at q d' pre place' b (post ++ (mid ++ after)) s (joined pre u post cut (mid ++ after)) x,
        )
        (by_reply (taken limit b x s))
      where
        u : Visit
        u = camac_visit s.run.spot place' b

        by_reply : Taken s (λ (rest : List Visit). take_reply limit rest b x s)
            → Stage (take_reply limit (post ++ v ∷ after) b x s) (take_reply limit (post ++ (mid ++ after)) b x s)
        by_reply (ends t f o) = beyond (past (over (rw f o)))
        by_reply (waits t f same) = rw (f (post ++ v ∷ after), f (post ++ (mid ++ after))) (early pre place' b post (rw same cut) refl)
        by_reply (goes t f) = rw (f (post ++ v ∷ after), f (post ++ (mid ++ after)))
            (arrives post (pre ++ u ∷ []) t (cut ∙ sym (append_snoc pre u post)))

    -- the same word is moved, with other words left
    same_word : (left : ℕ) (x : Reply) (s : State)
        → bare (word_moved limit (asking_for k c) x (with_left left s)) ≡ bare (with_left left (word_moved limit c x s))
    unfolding move_word moved_record moved_bytes moved counted
    same_word left x s = rw (
      a.direction,
      same_note (direction_of c.transfer) c.wide (counted limit (asking_for k c) x (with_left left s).run) (counted limit c x s.run) refl refl,
    )

    within_takes : (s t : State) (j : ℕ) → j < k → s.run.spot ≡ here → s.run.left ≡ words - j
        → bare t ≡ bare (with_left (k - j) s) → (x : Reply) → Stage (take_at p x s) (take_at q x t)
    unfolding waiting move_word moved_record counted
    within_takes s t j l e left same x =
        rw (at_block s e x, at_short t (ap (λ (z : State). z.run.spot) same ∙ e) (omega arith) x) (by_reply (block_takes limit c stop after h x s))
      where
        c' : Command
        c' = asking_for k c

        s' : State
        s' = with_left (k - j) s

        taken_short : bare (take_reply limit after c' x t) ≡ bare (take_reply limit after c' x s')
        taken_short = takes_alike after h c' limit x t s' same

        by_reply : Past after (take_reply limit after c x s) ⊎ Word limit c x s → Stage (take_reply limit after c x s) (take_reply limit after c' x t)
        by_reply (inl b) = beyond (past b)
        by_reply (inr w) =
            let stop' : qmode_of c'.transfer ≡ Stop = a.qmode ∙ stop in
            let one_less : k - (j + 1) ≡ k - j - 1 = omega arith in
            let clear' : causes_of limit c' s'.run x ≡ [] = stop_causes limit k c stop a s.run s'.run x w.clear in
            rw (more_words limit c stop after x s w.clear w.is_done w.more)
            (on (eqb (k - j - 1) 0)
            (λ z. let none : k - j - 1 ≡ 0 = eqb-true (k - j - 1) 0 z in
            full e (omega arith) (taken_short ∙ ap bare (last_word limit c' stop' after x s' clear' w.is_done z)
            ∙ runs_alike after h (word_moved limit c' x s') _ (ap carried (same_word (k - j) x s))))
            (λ z. within (j + 1) (omega (arith, eqb-false (k - j - 1) 0 z)) e (omega arith)
            (taken_short ∙ ap bare (more_words limit c' stop' after x s' clear' w.is_done z)
            ∙ rw one_less (ap (λ (m : State). bare (with_run (waiting (k - j - 1) 0 s.run.position m.run) m)) (same_word (k - j) x s)))))

    -- The whole run --------------------------------------------------------------------------------------------------------

    module _ (y : Reply) (ys : List Reply) (undone : done_by Stop y ≡ false) where
      closes : (s t : State) → Stage s t → Comes y s → bare (along p (y ∷ ys) s) ≡ bare (along q ys t)
      unfolding along counted
      closes s t (beyond b) g = absurd (never y [] s b g)
      closes s t (early pre place' b post cut same) g =
          let u : Visit = camac_visit s.run.spot place' b in
          let ahead : length (post ++ v ∷ after) ≡ length after =
          ahead_once p.visits pre u (post ++ v ∷ after) before v after d (joined pre u post cut (v ∷ after)) refl g.here_now in
          absurd (omega (arith, length-append post (v ∷ after)))
      closes s t (within j l e left same) g = absurd (omega (arith, g.moved_now))
      closes s t (full e left same) g =
          let s₁ : State = with_run (counted limit c y s.run) s in
          let goes_on : take_at p y s ≡ run_on after s₁ = at_block s e y ∙ closed limit c stop after y s g.clear undone in
          rw (along_on p y ys s g.going)
          (ends_alike after h p q (before ++ v ∷ []) (before ++ mid) first (sym (append_assoc before mid after)) d d' refl ys
          (take_at p y s) t (rw goes_on (runs_past after after [] refl h s₁)) (ap bare goes_on ∙ runs_alike after h s₁ s refl ∙ sym same))

      follows : (xs : List Reply) (s t : State) → Stage s t → Comes y (along p xs s) → bare (along p (xs ++ (y ∷ ys)) s) ≡ bare (along q (xs ++ ys) t)
      unfolding along
      follows [] s t r g = closes s t r g
      follows (x ∷ xs) s t r g = on s.run.ended
          (λ e. absurd (true_not_false (sym e ∙ (subst (Comes y) (along_over p (x ∷ xs) s e) g).going)))
          (λ e. by_stage e r (subst (Comes y) (along_on p x xs s e) g) (follows xs))
        where
          by_stage : s.run.ended ≡ false → Stage s t → Comes y (along p xs (take_at p x s))
              → ((s t : State) → Stage s t → Comes y (along p xs s) → bare (along p (xs ++ (y ∷ ys)) s) ≡ bare (along q (xs ++ ys) t))
              → bare (along p (x ∷ xs ++ (y ∷ ys)) s) ≡ bare (along q (x ∷ xs ++ ys) t)
          by_stage e (beyond b) g ih = absurd (never y xs (take_at p x s) (beyond_takes s e b x) g)
          by_stage e (full i left same) g ih = absurd (never y xs (take_at p x s) (block_beyond s i (omega arith) x) g)
          by_stage e (early pre place' b post cut same) g ih =
              rw (along_on p x (xs ++ (y ∷ ys)) s e, same, along_on q x (xs ++ ys) s e)
              (ih (take_at p x s) (take_at q x s) (early_takes s pre place' b post cut x) g)
          by_stage e (within j l i left same) g ih =
              rw (along_on p x (xs ++ (y ∷ ys)) s e, along_on q x (xs ++ ys) t (ap (λ (z : State). z.run.ended) same ∙ e))
              (ih (take_at p x s) (take_at q x t) (within_takes s t j l i left same x) g)

      runs_short : (incoming outgoing : List ℕ) (xs : List Reply) → Comes y (along p xs (begun p incoming outgoing))
          → bare (along p (xs ++ (y ∷ ys)) (begun p incoming outgoing)) ≡ bare (along q (xs ++ ys) (begun q incoming outgoing))
      unfolding begun
      runs_short incoming outgoing xs g =
          follows xs (begun p incoming outgoing) (begun q incoming outgoing) (arrives before [] (state_of (zero_record false) incoming outgoing) refl) g

-- The law ----------------------------------------------------------------------------------------------------------------

module _ (incoming outgoing : List ℕ) where
  -- one block
  one_short : (p : Plan) (xs : List Reply) → Distinct p.visits → Halts p.visits → (b : ShortBlock p incoming outgoing xs)
      → bare (along p xs (begun p incoming outgoing)) ≡ bare (along (declared b) (b.earlier ++ b.later) (begun (declared b) incoming outgoing))
  one_short p xs d h b =
      let c : Command = b.command in
      let v : Visit = b.visit in
      let shut = closing c.transfer b.closing b.closes in
      let k : ℕ = words_of c.transfer - b.waiting.left in
      let u : Visit = camac_visit v.spot v.place c in
      let same : v ≡ u = λ i. record { spot = v.spot; place = v.place; instruction = b.camac i } in
      let visits : p.visits ≡ b.before ++ u ∷ b.after = b.split ∙ ap (λ (w : Visit). b.before ++ w ∷ b.after) same in
      let p₀ : Plan = record { limit = p.limit; visits = b.before ++ u ∷ b.after } in
      let plan : p ≡ p₀ = λ i. record { limit = p.limit; visits = visits i } in
      let run₀ : b.waiting ≡ (along p₀ b.earlier (begun p₀ incoming outgoing)).run =
      sym b.comes ∙ ap (λ (x : Plan). (along x b.earlier (begun x incoming outgoing)).run) plan in
      ap (λ (l : List Reply). bare (along p l (begun p incoming outgoing))) b.cut
      ∙ rw (plan, same) (runs_short p.limit b.before v.spot v.place c b.after k (rw visits at d)
      (halts_after b.before u b.after refl (rw visits at h)) shut.stop (asks k c.transfer shut.block) b.closing b.later
      shut.undone incoming outgoing b.earlier (record {
        going = rw run₀ at b.going;
        here_now = rw run₀ at b.here;
        moved_now = ap (λ (x : Record). words_of c.transfer - x.left) run₀;
        clear = no_code p.limit c _ b.closing (rw run₀ at b.no_cause);
      }))

  -- one after the other
  all_short : {p q : Plan} {xs ys : List Reply} → Distinct p.visits → Halts p.visits → Shortened incoming outgoing p xs q ys
      → bare (along p xs (begun p incoming outgoing)) ≡ bare (along q ys (begun q incoming outgoing))
  all_short d h none_more = refl
  all_short {p} {xs = xs} d h (one_more b more) =
      let k : ℕ = words_of b.command.transfer - b.waiting.left in
      one_short p xs d h b
      ∙ all_short (distinct_short b.visit b.command b.after k b.before (rw b.split at d))
      (halts_short b.visit b.command b.after k b.before b.camac (rw b.split at h)) more

pub short_blocks : ShortBlocks
short_blocks list incoming outgoing p q xs ys bytes e s =
    let sound = prepared_sound list (length incoming) (length outgoing) p bytes e in
    all_short incoming outgoing sound.distinct sound.halts s
