-- What every answer keeps, the words and waits of a visit keep: k words are k times one word, since marks, bytes, place and note behind them are
-- those of the last word taken behind the others.
use Prim.Native.Nat.{ℕ, zero, suc, ◌+◌, ◌-◌, ◌*◌, ◌%◌, ◌≤◌}
use mathlib.Core.Path.{◌≡◌, refl, ap, subst}
use mathlib.Core.Bool.{Bool}
use mathlib.Core.List.{List}
use native.Mathlib.Omega.{arith}
use borrow.Author.Tests.{ltb-true, ltb-false}
use lib.Bits.{bit_and}
use lib.Dec.{ltb}
use Rattle.base.proofs.Tests.{on}
use Rattle.qmodes.specs.model.Answers.{words_ahead, place_after_words}
use Rattle.qmodes.specs.declared.modes.QMode.{QMode}
use Rattle.qmodes.specs.declared.modes.QMode.TheVariants.{Stop, Ignore, Repeat, Scan}
use Rattle.camac.specs.declared.words.Command.{Command}
use Rattle.camac.specs.declared.words.Direction.{Direction}
use Rattle.camac.specs.declared.words.Direction.TheVariants.{Incoming, Outgoing, Neither}
use Rattle.packing.specs.Packing.{mark_after_words, stored}
use Rattle.packing.specs.declared.Marks.{Marks}
use Rattle.walk.specs.declared.visits.Spot.{Spot}
use Rattle.reply.specs.declared.records.Record.{Record}
use Rattle.row.specs.model.Words.{Answered, longword_in, flags_at, words_stored}
use Rattle.row.proofs.WordLaws.{words_fewer}
use Rattle.answers.specs.model.Visit.{rules_of, marks_behind, note_behind, after_words, bytes_by, bytes_after, Words, Passed, none, words, wait}
use Rattle.answers.specs.declared.Rules.{Rules}
use Rattle.answers.specs.declared.Stay.{Stay}
use Rattle.answers.proofs.VisitRoom.{marks_add, ahead_most}
use Rattle.answers.proofs.AnswerTurn.{Leads, word_leads, wait_leads}

-- Words one after the other ------------------------------------------------------------------------------------------------

note_once : (d : Direction) (wide : Bool) (m m' : Marks) (s : Stay) → note_behind d wide m' (note_behind d wide m s.note) ≡ note_behind d wide m' s.note
note_once Incoming wide m m' s = refl
note_once Outgoing wide m m' s = refl
note_once Neither wide m m' s = refl

place_add : (q : QMode) (n j : ℕ) → place_after_words q (place_after_words q n j) 1 ≡ place_after_words q n (suc j)
place_add Stop n j = refl
place_add Ignore n j = refl
place_add Repeat n j = refl
place_add Scan n j = omega arith

module _ (rules : Rules) (row : List ℕ) (answers : ℕ) (s : Stay) where
  after_more : (j : ℕ) → after_words rules 1 (after_words rules j s) ≡ after_words rules (suc j) s
  unfolding after_words
  after_more j =
      let more : j + 1 ≡ suc j = omega arith in
      let taken : s.taken + j + 1 ≡ s.taken + suc j = omega arith in
      let left : s.left - j - 1 ≡ s.left - suc j = omega arith in
      rw (marks_add rules.direction rules.wide j 1 s.marks, note_once rules.direction rules.wide _ _ s, place_add rules.q s.position j, taken, left, more)

  bytes_more : (j : ℕ) (b : List ℕ) → bytes_after rules row 1 (after_words rules j s) (bytes_after rules row j s b) ≡ bytes_after rules row (suc j) s b
  unfolding bytes_after after_words words_stored mark_after_words
  bytes_more j b = go rules.direction
    where
      go : (d : Direction)
          → bytes_by d rules.wide row (s.taken + j) (marks_behind d rules.wide j s.marks).incoming 1
          (bytes_by d rules.wide row s.taken s.marks.incoming j b)
          ≡ bytes_by d rules.wide row s.taken s.marks.incoming (suc j) b
      go Incoming =
          let at : (s.taken + j + 0) * 8 ≡ (s.taken + j) * 8 = omega arith in
          ap (λ (n : ℕ). stored rules.wide (longword_in row n) (mark_after_words rules.wide j s.marks.incoming)
          (words_stored rules.wide row s.taken s.marks.incoming j b)) at
      go Outgoing = refl
      go Neither = refl

  -- fewer words, and the one behind them
  words_before : (j : ℕ) → Words rules row answers s (suc (suc j)) → Words rules row answers s (suc j)
  words_before j w = record {
    some = omega arith;
    ahead = omega (arith, w.ahead);
    answered = omega (arith, w.answered);
    are = words_fewer rules.word row s.taken (suc j) (suc (suc j)) (omega arith) w.are;
  }

  ahead_behind : (q : QMode) (n left j : ℕ) → suc j ≤ words_ahead q n left → 1 ≤ words_ahead q (place_after_words q n j) (left - j)
  ahead_behind Stop n left j h = omega arith
  ahead_behind Ignore n left j h = omega arith
  ahead_behind Repeat n left j h = omega arith
  ahead_behind Scan n left j h =
      on (ltb (0x17F - (n + j) + 1) (left - j))
      (λ f. rw f (on (ltb (0x17F - n + 1) left)
      (λ e. let g : suc j ≤ 0x17F - n = rw e at h in omega arith)
      (λ e. absurd (omega (arith, ltb-false (0x17F - n + 1) left e, ltb-true (0x17F - (n + j) + 1) (left - j) f)))))
      (λ f. rw f (omega (arith, ahead_most Scan n left)))

  words_behind : (j : ℕ) → Words rules row answers s (suc j) → Words rules row answers (after_words rules j s) 1
  unfolding after_words
  words_behind j w = record {
    some = omega arith;
    ahead = ahead_behind rules.q s.position s.left j w.ahead;
    answered = omega (arith, w.answered);
    are = λ i h. let same : s.taken + j ≡ s.taken + j + i = omega arith in
        subst (λ (n : ℕ). bit_and (flags_at row n) rules.word ≡ rules.word % 4) same (w.are j (omega arith));
  }

-- What each answer keeps ---------------------------------------------------------------------------------------------------

-- what holds of a stay and its buffer, and again behind each answer
pub record Keeps (limit : ℕ) (c : Command) (r : Record) (row : List ℕ) (from : ℕ) (k : Spot) (P : Stay → List ℕ → Type 0) : Type 0 where
  pub onward : {u : Stay} {x : List ℕ} → P u x → from ≤ u.taken
  pub next : {u v : Stay} {x y : List ℕ} → P u x → Leads limit c r row from k u x v y → P v y

module _ {limit : ℕ} {c : Command} {r : Record} {row : List ℕ} {answers from : ℕ} {k : Spot} {P : Stay → List ℕ → Type 0}
    (read : Answered row answers) (keeps : Keeps limit c r row from k P) where
  word_kept : {u : Stay} {x : List ℕ} → P u x → Words (rules_of c) row answers u 1 → P (after_words (rules_of c) 1 u) (bytes_after (rules_of c) row 1 u x)
  word_kept {u} {x} p w = keeps.next p (word_leads read limit c r from k u (keeps.onward p) w.answered x w)

  words_kept : {u : Stay} {x : List ℕ} → P u x → (j : ℕ) → Words (rules_of c) row answers u (suc j)
      → P (after_words (rules_of c) (suc j) u) (bytes_after (rules_of c) row (suc j) u x)
  words_kept p zero w = word_kept p w
  words_kept {u} {x} p (suc j) w =
      rw (← after_more (rules_of c) row answers u (suc j), ← bytes_more (rules_of c) row answers u (suc j) x)
      (word_kept (words_kept p j (words_before (rules_of c) row answers u j w)) (words_behind (rules_of c) row answers u (suc j) w))

  pub passed_kept : {u : Stay} {x : List ℕ} {v : Stay} {y : List ℕ} → P u x → Passed (rules_of c) limit row answers u x v y → P v y
  passed_kept p none = p
  passed_kept p (words zero q w) = absurd (omega (arith, w.some))
  passed_kept p (words (suc j) q w) = words_kept (passed_kept p q) j w
  passed_kept p (wait {t = t} {x = z} q w) =
      let before = passed_kept p q in keeps.next before (wait_leads read limit c r from k t (keeps.onward before) w.answered z w)
