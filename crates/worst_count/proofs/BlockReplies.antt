-- A reply at a block in stop mode: a cause, whatever the words left; a word done, which takes one off the words left; or the block is closed.
-- A block that asks for another number of words differs in nothing else.
use Prim.Native.Nat.{ℕ, zero, suc, ◌-◌, ◌<◌}
use mathlib.Core.Path.{◌≡◌, refl}
use mathlib.Core.Logic.{◌⊎◌, inl, inr}
use mathlib.Core.Bool.{true, false, not, false≢true}
use mathlib.Core.List.{List, [], ◌∷◌, ◌++◌}
use native.Mathlib.Omega.{arith}
use borrow.Author.Tests.{not-true}
use lib.Dec.{eqb}
use Rattle.base.proofs.Bools.{and_left, and_right}
use Rattle.base.proofs.Tests.{on}
use Rattle.camac.specs.Words.{qmode_of, address_of, words_of, direction_of, is_block}
use Rattle.camac.specs.declared.words.Transfer.{Transfer}
use Rattle.camac.specs.declared.words.Transfer.TheVariants.{Single, Block, Enhanced, Inline}
use Rattle.camac.specs.declared.words.Command.{Command}
use Rattle.qmodes.specs.Modes.{closes, tries_after, position_after}
use Rattle.qmodes.specs.declared.modes.QMode.{QMode}
use Rattle.qmodes.specs.declared.modes.QMode.TheVariants.{Stop, Ignore, Repeat, Scan}
use Rattle.walk.specs.Walk.{Visit}
use Rattle.listfile.specs.declared.field.Instruction.{Instruction}
use Rattle.listfile.specs.declared.field.Instruction.TheVariants.{Camac, Jump, Literal, Halt}
use Rattle.walk.proofs.Halting.{Absent, Distinct, Halts, halts_after}
use Rattle.walk.specs.declared.visits.Spot.{Spot}
use Rattle.reply.specs.Causes.{done_by, closed_by, cause_checks, causes_of, greatest, code_of}
use Rattle.reply.specs.Effect.{State, with_run, ended_at, run_on, longword_of, move_word, counted, waiting, go_on, by_causes, take_reply}
use Rattle.reply.specs.declared.records.Record.{Record}
use Rattle.reply.specs.declared.replies.Reply.{Reply}
use Rattle.reply.specs.declared.replies.Reply.TheVariants.{Answered, Timeout, NotRecognised, NoSync}
use Rattle.reply.proofs.CodeCases.{cause_numbered}
use Rattle.worst_count.specs.ShortBlocks.{asking, short_visit}
use Rattle.worst_count.proofs.Live.{camac_visit}
use Rattle.worst_count.proofs.CommonEnd.{Past, over, runs_past}

-- The block that asks for k words ----------------------------------------------------------------------------------------

-- a reply that closes a block: Q = 0 in stop
pub record Closing (t : Transfer) (y : Reply) : Type 0 where
  pub stop : qmode_of t ≡ Stop
  pub block : is_block t ≡ true
  pub undone : done_by Stop y ≡ false

pub closing : (t : Transfer) (y : Reply) → closed_by t y ≡ true → Closing t y
closing t Timeout e = absurd (false≢true e)
closing t NotRecognised e = absurd (false≢true e)
closing t NoSync e = absurd (false≢true e)
closing t (Answered a) e = by_mode (qmode_of t) refl e
  where
    by_mode : (q : QMode) → qmode_of t ≡ q → closes q (is_block t) a ≡ true → Closing t (Answered a)
    by_mode Stop m e = record { stop = m; block = and_right (not a.q) _ e; undone = not-true _ (and_left (not a.q) _ e) }
    by_mode Ignore m e = absurd (false≢true e)
    by_mode Repeat m e = absurd (false≢true e)
    by_mode Scan m e = absurd (false≢true e)

-- what a block that asks for k words keeps
pub record Asks (k : ℕ) (t t' : Transfer) : Type 0 where
  pub qmode : qmode_of t' ≡ qmode_of t
  pub block : is_block t' ≡ is_block t
  pub direction : direction_of t' ≡ direction_of t
  pub address : address_of t' ≡ address_of t
  pub words : words_of t' ≡ k

pub asks : (k : ℕ) (t : Transfer) → is_block t ≡ true → Asks k t (asking k t)
unfolding qmode_of is_block direction_of address_of words_of
asks k (Single q a) e = absurd (false≢true e)
asks k (Block q a n) e = record { qmode = refl; block = refl; direction = refl; address = refl; words = refl }
asks k (Enhanced q a n) e = record { qmode = refl; block = refl; direction = refl; address = refl; words = refl }
asks k (Inline q a word) e = absurd (false≢true e)

abbrev pub asking_for : ℕ → Command → Command
asking_for k c = record { transfer = asking k c.transfer; wide = c.wide; ad = c.ad }

module _ (here : Spot) (place : ℕ) (c : Command) where
  pub short_none : (k : ℕ) → k ≡ 0 → short_visit k (camac_visit here place c) c ≡ []
  short_none zero e = refl
  short_none (suc k) e = absurd (omega arith)

  pub short_some : (k : ℕ) → 0 < k → short_visit k (camac_visit here place c) c ≡ camac_visit here place (asking_for k c) ∷ []
  short_some zero h = absurd (omega arith)
  short_some (suc k) h = refl

-- the shorter walk visits no instruction twice, and ends with the halt
module _ (v : Visit) (c : Command) (after : List Visit) where
  absent_short : (k : ℕ) (i : Spot) (before : List Visit) → Absent i (before ++ v ∷ after) → Absent i (before ++ (short_visit k v c ++ after))
  absent_short zero i [] a = a.1
  absent_short (suc k) i [] a = a
  absent_short k i (u ∷ before) a = (a.0, absent_short k i before a.1)

  pub distinct_short : (k : ℕ) (before : List Visit) → Distinct (before ++ v ∷ after) → Distinct (before ++ (short_visit k v c ++ after))
  distinct_short zero [] d = d.1
  distinct_short (suc k) [] d = d
  distinct_short k (u ∷ before) d = (absent_short k u.spot before d.0, distinct_short k before d.1)

  pub halts_short : (k : ℕ) (before : List Visit) → v.instruction ≡ Camac c → Halts (before ++ v ∷ after) → Halts (before ++ (short_visit k v c ++ after))
  halts_short zero [] e h = halts_after [] v after e h
  halts_short (suc k) [] e h = halts_after [] v after e h
  halts_short k (u ∷ before) e h = at u.instruction h (halts_short k before e)
    where
      not_last : (before : List Visit) → before ++ v ∷ after ≡ [] → ⊥
      not_last [] e = let z : ◌≡◌ {A = ℕ} 0 1 = cc in omega arith
      not_last (x ∷ before) e = let z : ◌≡◌ {A = ℕ} 0 1 = cc in omega arith

      at : (i : Instruction) → Halts (record { spot = u.spot; place = u.place; instruction = i } ∷ before ++ v ∷ after)
          → (Halts (before ++ v ∷ after) → Halts (before ++ (short_visit k v c ++ after)))
          → Halts (record { spot = u.spot; place = u.place; instruction = i } ∷ before ++ (short_visit k v c ++ after))
      at (Camac d) h ih = ih h
      at (Jump target) h ih = ih h
      at (Literal x) h ih = ih h
      at Halt h ih = absurd (not_last before h)

-- Causes -----------------------------------------------------------------------------------------------------------------

pub no_code : (limit : ℕ) (c : Command) (r : Record) (x : Reply) → code_of limit c r x ≡ 0 → causes_of limit c r x ≡ []
unfolding code_of
no_code limit c r x e = by_row (causes_of limit c r x) refl e
  where
    by_row : (codes : List ℕ) → causes_of limit c r x ≡ codes → greatest codes ≡ 0 → codes ≡ []
    by_row [] f e = refl
    by_row (code ∷ codes) f e = absurd (omega (arith, cause_numbered limit c r x f))

-- in stop mode they depend on the answer and AD
pub stop_causes : (limit k : ℕ) (c : Command) → qmode_of c.transfer ≡ Stop → Asks k c.transfer (asking k c.transfer)
    → (r r' : Record) (x : Reply) → causes_of limit c r x ≡ [] → causes_of limit (asking_for k c) r' x ≡ []
unfolding causes_of cause_checks
stop_causes limit k c stop a r r' (Answered x) e = rw (a.qmode, a.block, stop) (rw stop at e)
stop_causes limit k c stop a r r' Timeout e = e
stop_causes limit k c stop a r r' NotRecognised e = e
stop_causes limit k c stop a r r' NoSync e = e

-- One reply in stop mode -------------------------------------------------------------------------------------------------

-- the state with one word more
abbrev pub word_moved : ℕ → Command → Reply → State → State
word_moved limit c x s = move_word c (longword_of x) (with_run (counted limit c x s.run) s)

module _ (limit : ℕ) (c : Command) (stop : qmode_of c.transfer ≡ Stop) (rest : List Visit) (x : Reply) (s : State)
    (clear : causes_of limit c s.run x ≡ []) where
  pub closed : done_by Stop x ≡ false → take_reply limit rest c x s ≡ run_on rest (with_run (counted limit c x s.run) s)
  unfolding take_reply by_causes go_on
  closed d = rw (clear, stop, d)

  pub last_word : done_by Stop x ≡ true → eqb (s.run.left - 1) 0 ≡ true → take_reply limit rest c x s ≡ run_on rest (word_moved limit c x s)
  unfolding take_reply by_causes go_on counted
  last_word d e = rw (clear, stop, d, e)

  pub more_words : done_by Stop x ≡ true → eqb (s.run.left - 1) 0 ≡ false → take_reply limit rest c x s
      ≡ with_run (waiting (s.run.left - 1) 0 s.run.position (word_moved limit c x s).run) (word_moved limit c x s)
  unfolding take_reply by_causes go_on counted tries_after position_after
  more_words d e = rw (clear, stop, d, e)

-- a word done, and not the last
pub record Word (limit : ℕ) (c : Command) (x : Reply) (s : State) : Type 0 where
  pub clear : causes_of limit c s.run x ≡ []
  pub is_done : done_by Stop x ≡ true
  pub more : eqb (s.run.left - 1) 0 ≡ false

-- any other reply ends the run or lets it go on
pub block_takes : (limit : ℕ) (c : Command) → qmode_of c.transfer ≡ Stop → (after : List Visit) → Halts after → (x : Reply) (s : State)
    → Past after (take_reply limit after c x s) ⊎ Word limit c x s
unfolding take_reply by_causes ended_at
block_takes limit c stop after h x s = by_row (causes_of limit c s.run x) refl
  where
    by_row : (codes : List ℕ) → causes_of limit c s.run x ≡ codes → Past after (take_reply limit after c x s) ⊎ Word limit c x s
    by_row (code ∷ codes) e = inl (over (rw e))
    by_row [] e = on (done_by Stop x)
        (λ d. on (eqb (s.run.left - 1) 0)
        (λ l. inl (rw (last_word limit c stop after x s e d l) (runs_past after after [] refl h (word_moved limit c x s))))
        (λ l. inr (record { clear = e; is_done = d; more = l })))
        (λ d. inl (rw (closed limit c stop after x s e d) (runs_past after after [] refl h (with_run (counted limit c x s.run) s))))
