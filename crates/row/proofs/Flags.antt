-- What six flags say, by trying all 64 of them: an answer whose flags pass the mask of its Q-mode is a word and no cause, and one that is no
-- word but passes the mask of waits is no cause either.
use Prim.Native.Nat.{ℕ, ◌%◌, ◌<◌}
use mathlib.Core.Path.{◌≡◌, refl}
use mathlib.Core.Bool.{Bool, true, false, ◌&&◌, not, false≢true, and-false}
use borrow.Author.Tests.{not-true}
use lib.Bits.{bit_and}
use lib.Dec.{eqb}
use Rattle.std.specs.Prelude.{if◌then◌else◌}
use Rattle.base.proofs.Bools.{and_left, and_right}
use Rattle.qmodes.specs.Modes.{done, no_x, no_qin_stop}
use Rattle.qmodes.specs.model.Answers.{word_flags, wait_flags, can_wait}
use Rattle.qmodes.specs.declared.modes.Answer.{Answer}
use Rattle.qmodes.specs.declared.modes.QMode.{QMode}
use Rattle.qmodes.specs.declared.modes.QMode.TheVariants.{Stop, Ignore, Repeat, Scan}
use Rattle.reply.specs.Causes.{parity_error, damaged}
use Rattle.row.specs.model.Words.{answer_by}
use Rattle.row.proofs.Tried.{all_below, tried}

under : (b x : Bool) → b ≡ true → (if b then x else true) ≡ true → x ≡ true
under true x h e = e
under false x h e = absurd (false≢true h)

-- an answer that does not end a single in stop does not end a block
any_block : (q : QMode) (a : Answer) → no_qin_stop q false a ≡ false → (block : Bool) → no_qin_stop q block a ≡ false
any_block q a e false = e
any_block Stop a e true = and-false (not a.q)
any_block Ignore a e true = refl
any_block Repeat a e true = refl
any_block Scan a e true = refl

-- whatever the data
module _ (word : ℕ) where
  -- the flags are no cause
  pub record Fine (q : QMode) (ad : Bool) (f : ℕ) : Type 0 where
    pub parity : parity_error ad (answer_by f word) ≡ false
    pub x : no_x q ad (answer_by f word) ≡ false
    pub q_set : (block : Bool) → no_qin_stop q block (answer_by f word) ≡ false
    pub undamaged : damaged ad (answer_by f word) ≡ false

  abbrev fine : QMode → Bool → ℕ → Bool
  fine q ad f =
      not (parity_error ad (answer_by f word))
      && (not (no_x q ad (answer_by f word)) && (not (no_qin_stop q false (answer_by f word)) && not (damaged ad (answer_by f word))))

  fine_all : (q : QMode) (ad : Bool) (f : ℕ) → fine q ad f ≡ true → Fine q ad f
  fine_all q ad f all =
      let rest = and_right (not (parity_error ad (answer_by f word))) _ all in
      let last = and_right (not (no_x q ad (answer_by f word))) _ rest in
      record {
        parity = not-true _ (and_left _ _ all);
        x = not-true _ (and_left _ _ rest);
        q_set = any_block q (answer_by f word) (not-true _ (and_left _ _ last));
        undamaged = not-true _ (and_right (not (no_qin_stop q false (answer_by f word))) _ last);
      }

  -- Words ----------------------------------------------------------------------------------------------------------------

  abbrev word_test : QMode → Bool → ℕ → Bool
  word_test q ad f = if eqb (bit_and f (word_flags q ad)) (word_flags q ad % 4) then done q (answer_by f word) && fine q ad f else true

  all_words : (q : QMode) (ad : Bool) → all_below 64 (word_test q ad) ≡ true
  unfolding all_below
  all_words Stop true = refl
  all_words Stop false = refl
  all_words Ignore true = refl
  all_words Ignore false = refl
  all_words Repeat true = refl
  all_words Repeat false = refl
  all_words Scan true = refl
  all_words Scan false = refl

  pub flags_word : (q : QMode) (ad : Bool) (f : ℕ) → f < 64 → eqb (bit_and f (word_flags q ad)) (word_flags q ad % 4) ≡ true
      → Fine q ad f × (done q (answer_by f word) ≡ true)
  flags_word q ad f h e =
      let all = under _ (done q (answer_by f word) && fine q ad f) e (tried 64 (word_test q ad) (all_words q ad) f h) in
      (fine_all q ad f (and_right (done q (answer_by f word)) _ all), and_left _ _ all)

  -- Waits ----------------------------------------------------------------------------------------------------------------

  abbrev wait_test : QMode → Bool → ℕ → Bool
  wait_test q ad f =
      if not (eqb (bit_and f (word_flags q ad)) (word_flags q ad % 4)) && eqb (bit_and f (wait_flags q ad)) (wait_flags q ad % 4)
      then not (done q (answer_by f word)) && fine q ad f else true

  all_waits : (q : QMode) (ad : Bool) (limit tries position : ℕ) → can_wait q limit tries position ≡ true → all_below 64 (wait_test q ad) ≡ true
  unfolding all_below
  all_waits Stop ad limit tries position c = absurd (false≢true c)
  all_waits Ignore ad limit tries position c = absurd (false≢true c)
  all_waits Repeat true limit tries position c = refl
  all_waits Repeat false limit tries position c = refl
  all_waits Scan true limit tries position c = refl
  all_waits Scan false limit tries position c = refl

  pub flags_wait : (q : QMode) (ad : Bool) (limit tries position : ℕ) → can_wait q limit tries position ≡ true → (f : ℕ) → f < 64
      → eqb (bit_and f (word_flags q ad)) (word_flags q ad % 4) ≡ false → eqb (bit_and f (wait_flags q ad)) (wait_flags q ad % 4) ≡ true
      → Fine q ad f × (done q (answer_by f word) ≡ false)
  flags_wait q ad limit tries position c f h e g =
      let all = under
      (not (eqb (bit_and f (word_flags q ad)) (word_flags q ad % 4)) && eqb (bit_and f (wait_flags q ad)) (wait_flags q ad % 4))
      (not (done q (answer_by f word)) && fine q ad f) (rw (e, g))
      (tried 64 (wait_test q ad) (all_waits q ad limit tries position c) f h) in
      (fine_all q ad f (and_right (not (done q (answer_by f word))) _ all), not-true _ (and_left _ _ all))
