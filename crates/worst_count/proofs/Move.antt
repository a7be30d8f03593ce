-- A reply counted at a live record: without a cause, and with the most still possible lowered by one, the run goes on, at its instruction or,
-- after its last word or closed, behind it, and keeps the invariant; with a cause it ends, within the worst count because one operation at least was still possible.
use Prim.Native.Nat.{ℕ, suc, ◌+◌, ◌-◌, ◌≤◌}
use mathlib.Core.Path.{◌≡◌, refl, sym, ap, ◌∙◌, subst}
use mathlib.Core.Logic.{◌⊎◌, inl, inr}
use mathlib.Core.Bool.{Bool, true, false, ◌&&◌, true≢false, false≢true}
use mathlib.Core.List.{List, [], ◌∷◌, ◌++◌}
use native.Mathlib.Omega.{arith}
use native.Mathlib.Nat.{le_refl, le_trans}
use borrow.Author.Tests.{eq-eqb, ne_eqb}
use lib.ListN.{length, get_or}
use lib.Seq.{append_snoc}
use Rattle.std.specs.Prelude.{if◌then◌else◌}
use Rattle.camac.specs.Words.{qmode_of, words_of, direction_of, position_of}
use Rattle.camac.specs.declared.words.Command.{Command}
use Rattle.camac.specs.declared.words.Direction.{Direction}
use Rattle.camac.specs.declared.words.Direction.TheVariants.{Incoming, Outgoing, Neither}
use Rattle.packing.specs.Packing.{width_of, mark_after}
use Rattle.packing.specs.declared.Marks.{Marks}
use Rattle.packing.proofs.MarkFacts.{stored_length, stored_beyond}
use Rattle.walk.specs.Walk.{Visit, no_marks, moved_by, moved, moved_words, marks_after, marks_over}
use Rattle.walk.specs.Worst.{worst_over}
use Rattle.walk.specs.Admission.{Plan}
use Rattle.walk.proofs.Halting.{Halts, Well}
use Rattle.walk.proofs.MarksGrow.{over_append, over_snoc, BelowMarks, below_trans, words_grow, below, words_even, marks_even, over_order}
use Rattle.qmodes.specs.Modes.{left_undone, most_left}
use Rattle.qmodes.specs.declared.modes.QMode.{QMode}
use Rattle.qmodes.specs.declared.modes.QMode.TheVariants.{Stop, Ignore, Repeat, Scan}
use Rattle.qmodes.proofs.MostFalls.{Near, Progress, finished, closed, going, most_some}
use Rattle.reply.specs.Causes.{greatest, only_nine}
use Rattle.reply.specs.Status.{flags_of, waiting_bits}
use Rattle.reply.specs.Effect.{State, with_run, ended_at, note_after, stored_by, moved_bytes, moved_record, move_word, counted, waiting, go_on, by_causes}
use Rattle.reply.specs.declared.records.Record.{Record}
use Rattle.reply.specs.declared.replies.Reply.{Reply}
use Rattle.worst_count.proofs.StatusBits.{Only, only_or}
use Rattle.worst_count.proofs.Live.{Under, MarksOk, marks_ok_same, marks_ok_by, marks_ok_under, live_under, NoteOk, read, wrote, Live, camac_visit}
use Rattle.worst_count.proofs.RunOn.{last_marks, Kept, Over, Reached, runs_on}

-- One word moved ---------------------------------------------------------------------------------------------------------

width_size : (wide : Bool) → (width_of wide ≡ 2) ⊎ (width_of wide ≡ 4)
unfolding width_of
width_size true = inr refl
width_size false = inl refl

note_moved : (d : Direction) (wide : Bool) (r : Record) → NoteOk r.note r.marks → NoteOk (note_after d wide r) (moved_by d wide r.marks)
unfolding mark_after
note_moved Incoming wide r h = read refl (width_size wide) (le_refl _)
note_moved Outgoing wide r h = wrote refl (width_size wide) (le_refl _)
note_moved Neither wide r h = h

bytes_beyond : (d : Direction) (wide : Bool) (word : ℕ) (m : Marks) (buffer : List ℕ) (i : ℕ) → (moved_by d wide m).incoming ≤ i
    → get_or (stored_by d wide word m.incoming buffer) i 0 ≡ get_or buffer i 0
bytes_beyond Incoming wide word m buffer i h = stored_beyond wide word m.incoming buffer i h
bytes_beyond Outgoing wide word m buffer i h = refl
bytes_beyond Neither wide word m buffer i h = refl

pub bytes_length : (d : Direction) (wide : Bool) (word mark : ℕ) (buffer : List ℕ) → length (stored_by d wide word mark buffer) ≡ length buffer
bytes_length Incoming wide word mark buffer = stored_length wide word mark buffer
bytes_length Outgoing wide word mark buffer = refl
bytes_length Neither wide word mark buffer = refl

move_kept : (c : Command) (word : ℕ) (s : State) (incoming outgoing : List ℕ) (b : ℕ) → (moved c s.run.marks).incoming ≤ b
    → Kept incoming outgoing b s → Kept incoming outgoing b (move_word c word s)
unfolding move_word moved_bytes moved
move_kept c word s incoming outgoing b h k = record {
  same_length = bytes_length (direction_of c.transfer) c.wide word s.run.marks.incoming s.incoming ∙ k.same_length;
  beyond = λ i g. bytes_beyond (direction_of c.transfer) c.wide word s.run.marks s.incoming i (le_trans h g) ∙ k.beyond i g;
  same_outgoing = k.same_outgoing;
}

move_noted : (c : Command) (r : Record) → NoteOk r.note r.marks → NoteOk (moved_record c r).note (moved_record c r).marks
unfolding moved_record moved
move_noted c r h = note_moved (direction_of c.transfer) c.wide r h

-- On without a cause -----------------------------------------------------------------------------------------------------

near_step : (slow : Bool) (a old new w : ℕ) → Near slow (a + old) w → Near slow (new + 1) old → Near slow (a + 1 + new) w
near_step true a old new w h g = omega arith
near_step false a old new w h g = omega arith

-- the marks after one more word
module _ (slow : Bool) (p : Plan) (r : Record) (l : Live slow p r) where
  marks_next : MarksOk slow (moved l.command r.marks)
      (moved_words (words_of l.command.transfer - (r.left - 1)) l.command (marks_over l.pre no_marks))
  unfolding moved_words moved
  marks_next =
      let e : words_of l.command.transfer - (r.left - 1) ≡ suc (words_of l.command.transfer - r.left) = omega (arith, l.some, l.most) in
      marks_ok_same slow _ _ _ (marks_ok_by slow (direction_of l.command.transfer) l.command.wide _ _ l.marks)
      (sym (ap (λ (j : ℕ). moved_words j l.command (marks_over l.pre no_marks)) e))

  -- the marks of the walk behind the instruction
  abbrev behind : Marks
  behind = marks_over (l.pre ++ camac_visit r.spot l.place l.command ∷ []) no_marks

  all_words : moved_words (words_of l.command.transfer) l.command (marks_over l.pre no_marks) ≡ behind
  unfolding marks_after
  all_words = sym (over_snoc l.pre (camac_visit r.spot l.place l.command) no_marks)

  split_after : p.visits ≡ (l.pre ++ camac_visit r.spot l.place l.command ∷ []) ++ l.post
  split_after = l.split ∙ sym (append_snoc l.pre (camac_visit r.spot l.place l.command) l.post)

  -- after the last word they are those of the walk behind the instruction
  last_marks_lem : r.left ≡ 1 → MarksOk slow (moved l.command r.marks) behind
  last_marks_lem one =
      let words : words_of l.command.transfer - (r.left - 1) ≡ words_of l.command.transfer = omega arith in
      marks_ok_same slow _ _ _ marks_next (ap (λ (j : ℕ). moved_words j l.command (marks_over l.pre no_marks)) words ∙ all_words)

  -- with fewer words than all they are even and at most those, whether the next word is moved or its block is closed
  under_all : (m : Marks) (k : ℕ) → k ≤ words_of l.command.transfer → Under m (moved_words k l.command (marks_over l.pre no_marks))
      → Under m behind
  under_all m k h u = record {
    below = subst (BelowMarks m) all_words
        (below_trans u.below (words_grow k (words_of l.command.transfer) l.command (marks_over l.pre no_marks) h));
    even = u.even;
  }

  moved_under : Under (moved l.command r.marks) behind
  moved_under =
      under_all _ (words_of l.command.transfer - (r.left - 1)) (omega arith)
      (marks_ok_under slow _ _ (words_even (words_of l.command.transfer - (r.left - 1)) l.command _ (marks_even l.pre)) marks_next)

  closed_under : Under r.marks behind
  closed_under = under_all _ (words_of l.command.transfer - r.left) (omega arith) (live_under slow p r l)

  -- so that they are at most B and O
  up_to_here : BelowMarks behind (last_marks p)
  up_to_here = below p.visits (l.pre ++ camac_visit r.spot l.place l.command ∷ []) l.post no_marks split_after

  pub next_below : BelowMarks (moved l.command r.marks) (last_marks p)
  next_below = below_trans moved_under.below up_to_here

  pub live_below : BelowMarks r.marks (last_marks p)
  live_below = below_trans closed_under.below up_to_here

  -- and behind the instruction the rest of the walk stays below B and O
  pub rest_room : (m : Marks) → (m ≡ moved l.command r.marks) ⊎ (m ≡ r.marks) → BelowMarks (marks_over l.post m) (last_marks p)
  rest_room m e =
      let v = camac_visit r.spot l.place l.command in
      let u : Under m behind = by_word e in
      subst (BelowMarks (marks_over l.post m))
      (sym (over_append (l.pre ++ v ∷ []) l.post no_marks) ∙ ap (λ (vs : List Visit). marks_over vs no_marks) (sym split_after))
      (over_order l.post m behind u.even u.below)
    where
      by_word : (m ≡ moved l.command r.marks) ⊎ (m ≡ r.marks) → Under m behind
      by_word (inl e) = subst (λ (x : Marks). Under x behind) (sym e) moved_under
      by_word (inr e) = subst (λ (x : Marks). Under x behind) (sym e) closed_under

-- The words left after a word not done: none of a block that is closed, else all
left_none : (q : QMode) (left : ℕ) → q ≡ Stop → left_undone q left ≡ 0
left_none q left e = rw e

left_all : (q : QMode) (left : ℕ) → 1 ≤ left_undone q left → left_undone q left ≡ left
left_all Stop left h = absurd (omega arith)
left_all Ignore left h = refl
left_all Repeat left h = refl
left_all Scan left h = refl

module _ (slow : Bool) (p : Plan) (incoming outgoing : List ℕ) (hl : 1 ≤ p.limit) (s : State) (t : ℕ) (l : Live slow p s.run)
    (kept : Kept incoming outgoing (last_marks p).incoming s) (count : s.run.operations ≡ t) (reply : Reply) (word : ℕ)
    (flags : Only waiting_bits (flags_of p.limit l.command s.run reply)) (ht : Halts l.post) (wl : Well l.post) where
  -- the state with the reply counted
  abbrev now : State
  now = with_run (counted p.limit l.command reply s.run) s

  kept_now : Kept incoming outgoing (last_marks p).incoming now
  kept_now = record { same_length = kept.same_length; beyond = kept.beyond; same_outgoing = kept.same_outgoing }

  kept_moved : Kept incoming outgoing (last_marks p).incoming (move_word l.command word now)
  unfolding counted
  kept_moved = move_kept l.command word now incoming outgoing _ (next_below slow p s.run l).incoming kept_now

  pub goes_on : (is_done : Bool)
      → Progress slow p.limit (qmode_of l.command.transfer) (position_of l.command.transfer) s.run.position s.run.left
      s.run.tries (worst_over p.limit l.post) is_done
      → Reached slow p incoming outgoing (go_on l.post l.command is_done word now) (t + 1)
  unfolding go_on counted move_word moved_record waiting
  goes_on true (finished e one near) =
      rw (eq-eqb (s.run.left - 1) 0 (omega arith))
      (runs_on slow p incoming outgoing hl l.post (l.pre ++ camac_visit s.run.spot l.place l.command ∷ [])
      (move_word l.command word now) (t + 1) (record {
        split = split_after slow p s.run l;
        halts = ht;
        well = wl;
        marks = last_marks_lem slow p s.run l one;
        bound = near_step slow _ _ _ _ l.bound near;
        status = only_or l.status flags;
        noted = move_noted l.command now.run l.noted;
        count = ap (λ (x : ℕ). x + 1) count;
        kept = kept_moved;
      }))
  goes_on false (finished e one near) = absurd (false≢true e)
  goes_on true (closed any e q near) = absurd (true≢false e)
  goes_on false (closed any e q near) =
      rw (left_none (qmode_of l.command.transfer) s.run.left q)
      (runs_on slow p incoming outgoing hl l.post (l.pre ++ camac_visit s.run.spot l.place l.command ∷ []) now (t + 1) (record {
        split = split_after slow p s.run l;
        halts = ht;
        well = wl;
        marks = subst (λ (b : Bool). MarksOk b s.run.marks (marks_over (l.pre ++ camac_visit s.run.spot l.place l.command ∷ []) no_marks))
            (sym any) (closed_under slow p s.run l);
        bound = near_step slow _ _ _ _ l.bound near;
        status = only_or l.status flags;
        noted = l.noted;
        count = ap (λ (x : ℕ). x + 1) count;
        kept = kept_now;
      }))
  goes_on true (going some tried position room near) =
      rw (ne_eqb (s.run.left - 1) 0 (omega arith)) (record {
        count = ap (λ (x : ℕ). x + 1) count;
        kept = record { same_length = kept_moved.same_length; beyond = kept_moved.beyond; same_outgoing = kept_moved.same_outgoing };
        stage = inl (record {
          pre = l.pre;
          place = l.place;
          command = l.command;
          post = l.post;
          split = l.split;
          waits = refl;
          some = some;
          most = omega (arith, l.most);
          tried = tried;
          position = position;
          marks = marks_next slow p s.run l;
          bound = near_step slow _ _ _ _ l.bound near;
          room = room;
          status = only_or l.status flags;
          noted = move_noted l.command now.run l.noted;
        });
      })
  goes_on false (going some tried position room near) =
      let all : left_undone (qmode_of l.command.transfer) s.run.left ≡ s.run.left = left_all (qmode_of l.command.transfer) s.run.left some in
      rw (all, ne_eqb s.run.left 0 (omega (arith, l.some))) (record {
        count = ap (λ (x : ℕ). x + 1) count;
        kept = record { same_length = kept.same_length; beyond = kept.beyond; same_outgoing = kept.same_outgoing };
        stage = inl (record {
          pre = l.pre;
          place = l.place;
          command = l.command;
          post = l.post;
          split = l.split;
          waits = refl;
          some = l.some;
          most = l.most;
          tried = tried;
          position = position;
          marks = l.marks;
          bound = near_step slow _ _ _ _ l.bound (rw all at near);
          room = rw all at room;
          status = only_or l.status flags;
          noted = l.noted;
        });
      })

-- Ended by a cause -------------------------------------------------------------------------------------------------------

-- a live record has an operation left
pub live_some : (slow : Bool) (p : Plan) (r : Record) (l : Live slow p r)
    → 1 ≤ most_left p.limit (qmode_of l.command.transfer) r.position r.left r.tries (worst_over p.limit l.post)
live_some slow p r l =
    most_some p.limit (qmode_of l.command.transfer) (position_of l.command.transfer) r.position r.left r.tries
    (worst_over p.limit l.post)
    l.some l.tried l.position

module _ (p : Plan) (incoming outgoing : List ℕ) (s : State) (t : ℕ) (l : Live false p s.run)
    (kept : Kept incoming outgoing (last_marks p).incoming s) (count : s.run.operations ≡ t) (reply : Reply) (word : ℕ) where
  pub ends_by : (code : ℕ) (codes : List ℕ) (is_done : Bool) → Reached false p incoming outgoing
      (by_causes (code ∷ codes) l.post l.command is_done word (with_run (counted p.limit l.command reply s.run) s)) (t + 1)
  unfolding by_causes ended_at counted move_word moved_record
  ends_by code codes is_done = go (is_done && only_nine (code ∷ codes))
    where
      now : State
      now = with_run (counted p.limit l.command reply s.run) s

      ends : (r : Record) → r.operations ≡ s.run.operations + 1 → BelowMarks r.marks (last_marks p)
          → Over false p (ended_at s.run.spot (greatest (code ∷ codes)) r)
      ends r n under = record {
        over = refl;
        within = omega (arith, l.bound, live_some false p s.run l, n);
        below = under;
        clean = λ e. absurd (false≢true e);
      }

      go : (b : Bool) → Reached false p incoming outgoing
          (with_run (ended_at now.run.spot (greatest (code ∷ codes)) (if b then move_word l.command word now else now).run)
          (if b then move_word l.command word now else now)) (t + 1)
      go true =
          let k = move_kept l.command word now incoming outgoing _ (next_below false p s.run l).incoming
          (record { same_length = kept.same_length; beyond = kept.beyond; same_outgoing = kept.same_outgoing }) in
          record {
            count = ap (λ (x : ℕ). x + 1) count;
            kept = record { same_length = k.same_length; beyond = k.beyond; same_outgoing = k.same_outgoing };
            stage = inr (ends (moved_record l.command now.run) refl (next_below false p s.run l));
          }
      go false = record {
        count = ap (λ (x : ℕ). x + 1) count;
        kept = record { same_length = kept.same_length; beyond = kept.beyond; same_outgoing = kept.same_outgoing };
        stage = inr (ends now.run refl (live_below false p s.run l));
      }
