-- A word or a wait taken at the record that a stay stands for leaves what the next stay stands for: it is no cause, its flags are gathered, and what
-- it moves is in the closed form. Behind a last word the walk goes on, which looks at marks, operations, status and note alone.
use Prim.Native.Nat.{ℕ, suc, ◌+◌, ◌-◌, ◌*◌, ◌/◌, ◌%◌, ◌≤◌, ◌<◌}
use mathlib.Core.Path.{◌≡◌, refl, sym, ap, ◌∙◌}
use mathlib.Core.Bool.{Bool, true, false, and-false, false≢true}
use mathlib.Core.List.{List}
use mathlib.Core.Option.{some}
use Rattle.std.specs.Prelude.{Some}
use native.Mathlib.Omega.{arith}
use borrow.Author.Tests.{eq-eqb, ne_eqb, lt-ltb, eqb-false, ltb-true, ltb-false}
use lib.Bits.{bit_or, or_zero_l}
use lib.Dec.{eqb, ltb}
use lib.ListN.{length, take, drop}
use Rattle.std.specs.Prelude.{Some, if◌then◌else◌}
use Rattle.base.proofs.Tests.{on}
use Rattle.camac.specs.Words.{qmode_of, is_block, direction_of}
use Rattle.qmodes.specs.Scan.{after_done, after_other}
use Rattle.qmodes.specs.Modes.{done, left_after, spent, ran_off, leaves, scan_leaves, tries_after, position_after}
use Rattle.qmodes.specs.model.Answers.{can_wait, words_ahead, place_after_words, place_after_wait}
use Rattle.qmodes.specs.declared.modes.Answer.{Answer}
use Rattle.qmodes.specs.declared.modes.QMode.{QMode}
use Rattle.qmodes.specs.declared.modes.QMode.TheVariants.{Stop, Ignore, Repeat, Scan}
use Rattle.camac.specs.declared.words.Command.{Command}
use Rattle.camac.specs.declared.words.Direction.{Direction}
use Rattle.camac.specs.declared.words.Direction.TheVariants.{Incoming, Outgoing, Neither}
use Rattle.packing.specs.Packing.{width_of, mark_after, mark_after_words, stored}
use Rattle.packing.specs.declared.Marks.{Marks}
use Rattle.walk.specs.Walk.{Visit, moved_by, moved}
use Rattle.walk.specs.declared.visits.Spot.{Spot}
use Rattle.walk.proofs.Halting.{Halts}
use Rattle.reply.specs.Replies.{reply_of}
use Rattle.reply.specs.Status.{flags_of}
use Rattle.reply.specs.Effect.{State, run_on, note_after, moved_record, moved_bytes, stored_by, move_word, counted, waiting, go_on, by_causes, take_reply, longword_of, state_of}
use Rattle.reply.specs.declared.records.Record.{Record}
use Rattle.reply.specs.declared.replies.Reply.{Reply}
use Rattle.reply.specs.declared.replies.Reply.TheVariants.{Answered}
use Rattle.reply.proofs.CodeCases.{NoCause, no_causes}
use Rattle.take.proofs.Onward.{runs_alike}
use Rattle.row.specs.model.Words.{Answered as Read, data_in, longword_in, flags_at, flag_bits, gathered_bits, words_stored, answer_by}
use Rattle.row.proofs.BitLaws.{or_assoc}
use Rattle.row.proofs.Flags.{Fine, flags_word, flags_wait}
use Rattle.row.proofs.WordLaws.{reply_flags, reply_answered, reply_longword, first_word}
use Rattle.answers.specs.model.Visit.{rules_of, position_at, record_at, marks_behind, note_behind, after_words, bytes_by, bytes_after, after_wait, Words, Waits}
use Rattle.answers.specs.declared.Stay.{Stay}
use Rattle.answers.proofs.VisitRoom.{ahead_most, bytes_length}

-- Positions --------------------------------------------------------------------------------------------------------------

done_next : (n : ℕ) → n < 0x17F → after_done (position_at n) ≡ Some (position_at (n + 1))
unfolding after_done after_other
done_next n h =
    on (ltb (n % 16) 15)
    (λ e. let low = ltb-true (n % 16) 15 e in
    let s : n / 16 ≡ (n + 1) / 16 = omega arith in
    let a : n % 16 + 1 ≡ (n + 1) % 16 = omega arith in
    rw (e, s, a))
    (λ e. let high = ltb-false (n % 16) 15 e in
    let t : ltb (n / 16) 23 ≡ true = lt-ltb (n / 16) 23 (omega arith) in
    let s : n / 16 + 1 ≡ (n + 1) / 16 = omega arith in
    let a : 0 ≡ (n + 1) % 16 = omega arith in
    rw (e, t, s, ← a))

other_next : (n : ℕ) → n < 0x170 → after_other (position_at n) ≡ Some (position_at ((n / 16 + 1) * 16))
unfolding after_other
other_next n h =
    let t : ltb (n / 16) 23 ≡ true = lt-ltb (n / 16) 23 (omega arith) in
    let s : (n / 16 + 1) * 16 / 16 ≡ n / 16 + 1 = omega arith in
    let a : (n / 16 + 1) * 16 % 16 ≡ 0 = omega arith in
    rw (t, s, a)

-- a word that is not the last has a place for the next
next_place : (n left : ℕ) → 1 ≤ words_ahead Scan n left → ¬ (left - 1 ≡ 0) → n < 0x17F
next_place n left h more =
    on (ltb (0x17F - n + 1) left)
    (λ e. let g : 1 ≤ 0x17F - n = rw e at h in omega arith)
    (λ e. let g : 1 ≤ left = rw e at h in omega (arith, ltb-false (0x17F - n + 1) left e))

-- an answer by which no try, no scan and no block comes to its end; where a word is left, the next operation is at place `next`
record Onward (limit : ℕ) (q : QMode) (a : Answer) (tries n left : ℕ) (d : Bool) (next : ℕ) : Type 0 where
  unspent : spent limit q a tries ≡ false
  stays : scan_leaves q a (position_at n) left ≡ false
  remains : left_after q d left ≡ (if d then left - 1 else left)
  position : ¬ (left_after q d left ≡ 0) → position_after q d (position_at n) ≡ position_at next

module _ (limit : ℕ) (a : Answer) (tries n left : ℕ) where
  word_onward : (q : QMode) → done q a ≡ true → 1 ≤ words_ahead q n left → Onward limit q a tries n left true (place_after_words q n 1)
  unfolding leaves position_after
  word_onward Stop d h = record { unspent = refl; stays = refl; remains = refl; position = λ more. refl }
  word_onward Ignore d h = record { unspent = refl; stays = refl; remains = refl; position = λ more. refl }
  word_onward Repeat d h = record { unspent = rw d; stays = refl; remains = refl; position = λ more. refl }
  word_onward Scan d h = record {
    unspent = refl;
    stays = on (eqb (left - 1) 0) (λ e. rw (d, e) (and-false (ran_off (after_done (position_at n)))))
        (λ e. rw (d, done_next n (next_place n left h (eqb-false (left - 1) 0 e))));
    remains = refl;
    position = λ more. rw (done_next n (next_place n left h more));
  }

  wait_onward : (q : QMode) → done q a ≡ false → can_wait q limit tries n ≡ true → Onward limit q a tries n left false (place_after_wait q n)
  unfolding leaves position_after
  wait_onward Stop d h = absurd (false≢true h)
  wait_onward Ignore d h = absurd (false≢true h)
  wait_onward Repeat d h = record {
    unspent = rw (d, ne_eqb (tries + 1) limit (λ e. omega (arith, ltb-true (tries + 1) limit h)));
    stays = refl;
    remains = refl;
    position = λ more. refl;
  }
  wait_onward Scan d h =
      let next = other_next n (ltb-true n 0x170 h) in record { unspent = refl; stays = rw (d, next); remains = refl; position = λ more. rw next }

tries_none : (q : QMode) (tries : ℕ) → tries_after q true tries ≡ 0
unfolding tries_after
tries_none Stop tries = refl
tries_none Ignore tries = refl
tries_none Repeat tries = refl
tries_none Scan tries = refl

-- What a record stands for ------------------------------------------------------------------------------------------------

-- the state that a record stands for: with no word left, the walk goes on behind its instruction
unfoldable pub standing : List Visit → State → State
standing rest s = if eqb s.run.left 0 then run_on rest s else s

module _ (rest : List Visit) (s : State) where
  pub standing_waits : 1 ≤ s.run.left → standing rest s ≡ s
  unfolding standing
  standing_waits h = rw (ne_eqb s.run.left 0 (λ e. omega arith))

  pub standing_through : s.run.left ≡ 0 → standing rest s ≡ run_on rest s
  unfolding standing
  standing_through e = rw (eq-eqb s.run.left 0 e)

-- One word in the closed form --------------------------------------------------------------------------------------------

marks_one : (d : Direction) (wide : Bool) (m : Marks) → moved_by d wide m ≡ marks_behind d wide 1 m
unfolding mark_after_words
marks_one Incoming wide m = refl
marks_one Outgoing wide m = refl
marks_one Neither wide m = refl

note_one : (d : Direction) (wide : Bool) (r : Record) → note_after d wide r ≡ note_behind d wide (marks_behind d wide 1 r.marks) r.note
unfolding mark_after_words mark_after
note_one Incoming wide r = ap (λ (o : ℕ). record { buffer = 0; offset = o; size = width_of wide }) (omega arith)
note_one Outgoing wide r = ap (λ (o : ℕ). record { buffer = 1; offset = o; size = width_of wide }) (omega arith)
note_one Neither wide r = refl

-- At a stay ------------------------------------------------------------------------------------------------------------------

-- the reply at one stay is an answer that leads to another
pub record Leads (limit : ℕ) (c : Command) (r : Record) (row : List ℕ) (from : ℕ) (k : Spot) (u : Stay) (x : List ℕ) (v : Stay) (y : List ℕ) : Type 0 where
  pub inside : u.taken * 8 < length row
  pub reply : Reply
  pub is : reply_of (take 8 (drop (u.taken * 8) row)) ≡ some reply
  pub taken : v.taken ≡ u.taken + 1
  pub some : 1 ≤ u.left
  pub left : u.left ≤ v.left + 1
  pub last : v.left ≡ 0 → v.marks ≡ moved c u.marks
  pub kept : length y ≡ length x
  pub takes : (rest : List Visit) → Halts rest → (out : List ℕ)
      → take_reply limit rest c reply (state_of (record_at r row from k u) x out) ≡ standing rest (state_of (record_at r row from k v) y out)

module _ {row : List ℕ} {answers : ℕ} (read : Read row answers) (limit : ℕ) (c : Command) (r : Record) (from : ℕ) (k : Spot) (u : Stay)
    (onward : from ≤ u.taken) (answered : u.taken + 1 ≤ answers) (x : List ℕ) where
  abbrev at : Stay → Record
  at v = record_at r row from k v

  h : u.taken * 8 < length row
  h = omega (arith, read.within)

  abbrev word : ℕ
  word = data_in row (u.taken * 8)

  abbrev answer : Answer
  answer = answer_by (flags_at row u.taken) word

  is_answer : reply_of (take 8 (drop (u.taken * 8) row)) ≡ some (Answered answer)
  is_answer = reply_answered row read.formed u.taken h (read.kinds u.taken (omega arith))

  few : flags_at row u.taken < 64
  few = reply_flags row read.formed u.taken h

  no_cause : {d : Bool} {next : ℕ} → Fine word (qmode_of c.transfer) c.ad (flags_at row u.taken)
      → Onward limit (qmode_of c.transfer) answer u.tries u.position u.left d next → NoCause limit c (at u) answer
  unfolding record_at
  no_cause f o = record { unspent = o.unspent; parity = f.parity; stays = o.stays; x = f.x; q = f.q_set (is_block c.transfer); undamaged = f.undamaged }

  -- an operation more, and its flags gathered
  operations : (at u).operations + 1 ≡ r.operations + (u.taken + 1 - from)
  unfolding record_at
  operations = omega arith

  bits : NoCause limit c (at u) answer → flags_of limit c (at u) (Answered answer) ≡ flag_bits (flags_at row u.taken)
  unfolding flags_of flag_bits
  bits n = rw (n.unspent, n.stays) (simp or_zero_l)

  status : NoCause limit c (at u) answer
      → bit_or (at u).status (flags_of limit c (at u) (Answered answer)) ≡ bit_or r.status (gathered_bits row from (u.taken + 1 - from))
  unfolding record_at gathered_bits
  status n =
      let one : u.taken + 1 - from ≡ suc (u.taken - from) = omega arith in
      let last : from + (u.taken - from) ≡ u.taken = omega arith in
      rw (bits n, one, last) (or_assoc r.status (gathered_bits row from (u.taken - from)) (flag_bits (flags_at row u.taken)))

  module _ (w : Words (rules_of c) row answers u 1) where
    abbrev after : Stay
    after = after_words (rules_of c) 1 u

    bytes : moved_bytes c (longword_of (Answered answer)) (at u).marks.incoming x ≡ bytes_after (rules_of c) row 1 u x
    unfolding moved_bytes rules_of record_at bytes_after words_stored mark_after_words
    bytes = go (direction_of c.transfer)
      where
        go : (d : Direction) → stored_by d c.wide (longword_of (Answered answer)) u.marks.incoming x ≡ bytes_by d c.wide row u.taken u.marks.incoming 1 x
        go Incoming =
            let same : u.taken * 8 ≡ (u.taken + 0) * 8 = omega arith in
            ap (λ (v : ℕ). stored c.wide v u.marks.incoming x)
            (reply_longword row read.formed u.taken h ∙ ap (longword_in row) same)
        go Outgoing = refl
        go Neither = refl

    word_takes : (rest : List Visit) → Halts rest → (out : List ℕ)
        → take_reply limit rest c (Answered answer) (state_of (at u) x out) ≡ standing rest (state_of (at after) (bytes_after (rules_of c) row 1 u x) out)
    unfolding take_reply by_causes go_on move_word standing waiting record_at moved_record counted after_words rules_of moved
    word_takes rest halt out =
        let t = flags_word word (qmode_of c.transfer) c.ad (flags_at row u.taken) few (first_word _ row u.taken w.are) in
        let o = word_onward limit answer u.tries u.position u.left (qmode_of c.transfer) t.1 w.ahead in
        let n = no_cause t.0 o in
        let marks = marks_one (direction_of c.transfer) c.wide u.marks in
        let note = note_one (direction_of c.transfer) c.wide (counted limit c (Answered answer) (at u)) in
        rw (no_causes n, t.1, ← bytes)
        (on (eqb (u.left - 1) 0)
        (λ e. rw (e, note, marks, operations, status n) (runs_alike (u.left - 1) 0 (position_at after.position) rest halt _ _ out))
        (λ e. rw (e, note, tries_none (qmode_of c.transfer) u.tries, o.position (eqb-false (u.left - 1) 0 e), marks, operations, status n)))

    pub word_leads : Leads limit c r row from k u x after (bytes_after (rules_of c) row 1 u x)
    unfolding after_words rules_of moved
    word_leads = record {
      inside = h;
      reply = Answered answer;
      is = is_answer;
      taken = refl;
      some = omega (arith, w.ahead, ahead_most (qmode_of c.transfer) u.position u.left);
      left = omega arith;
      last = λ e. sym (marks_one (direction_of c.transfer) c.wide u.marks);
      kept = bytes_length (rules_of c) row 1 u x;
      takes = word_takes;
    }

  module _ (w : Waits (rules_of c) limit row answers u) where
    wait_takes : (rest : List Visit) (out : List ℕ)
        → take_reply limit rest c (Answered answer) (state_of (at u) x out) ≡ standing rest (state_of (at (after_wait (rules_of c) u)) x out)
    unfolding take_reply by_causes go_on standing waiting record_at counted after_wait rules_of
    wait_takes rest out =
        let t = flags_wait word (qmode_of c.transfer) c.ad limit u.tries u.position w.tried (flags_at row u.taken) few w.no_word w.judged in
        let o = wait_onward limit answer u.tries u.position u.left (qmode_of c.transfer) t.1 w.tried in
        let n = no_cause t.0 o in
        let more : ¬ (u.left ≡ 0) = λ e. omega (arith, w.some) in
        rw (no_causes n, t.1, o.remains, ne_eqb u.left 0 more, o.position (rw o.remains more), operations, status n)

    pub wait_leads : Leads limit c r row from k u x (after_wait (rules_of c) u) x
    unfolding after_wait
    wait_leads = record {
      inside = h;
      reply = Answered answer;
      is = is_answer;
      taken = refl;
      some = w.some;
      left = omega arith;
      last = λ e. absurd (omega (arith, w.some));
      kept = refl;
      takes = λ rest halt out. wait_takes rest out;
    }
