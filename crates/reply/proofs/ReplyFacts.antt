-- A reply in bytes: bytes are formed where they have the form and their kind is one of four, and formed bytes are the reply of their
-- kind. The bytes of a piece of a row are those of the row from its place on.
use Prim.Native.Nat.{ℕ, zero, suc, ◌+◌, ◌*◌, ◌/◌, ◌%◌, ◌<◌}
use mathlib.Core.Path.{◌≡◌, refl, sym, ap, ◌∙◌}
use mathlib.Core.Bool.{true, false, ◌&&◌}
use mathlib.Core.List.{List}
use mathlib.Core.Option.{Option, none, some}
use native.Mathlib.Omega.{arith}
use native.Mathlib.Nat.{div-one}
use borrow.Author.Tests.{lt-leb, eqb-true}
use lib.Dec.{leb, eqb}
use lib.ListN.{length, take, drop, get_or}
use lib.Seq.{get_or-take, get_or-drop}
use Rattle.base.specs.Bytes.{byte_at}
use Rattle.reply.specs.Replies.{answer_in, of_kind, has_form, reply_of, is_some_reply, is_formed}
use Rattle.qmodes.specs.declared.modes.Answer.{Answer}
use Rattle.reply.specs.declared.replies.Reply.{Reply}
use Rattle.reply.specs.declared.replies.Reply.TheVariants.{Answered, Timeout, NotRecognised, NoSync}
use Rattle.base.proofs.Tests.{on, true_not_false}
use Rattle.base.proofs.Bools.{and_left}

-- The piece of a row -----------------------------------------------------------------------------------------------------

abbrev pub piece : List ℕ → ℕ → List ℕ
piece row at = take 8 (drop at row)

pub piece_byte : (row : List ℕ) (at i : ℕ) → i < 8 → byte_at (piece row at) i ≡ get_or row (at + i) 0
unfolding byte_at
piece_byte row at i h = get_or-take 8 (drop at row) i 0 h ∙ get_or-drop at row i 0

pub piece_first : (row : List ℕ) (at : ℕ) → byte_at (piece row at) 0 ≡ get_or row at 0
piece_first row at = piece_byte row at 0 (omega arith) ∙ ap (λ (i : ℕ). get_or row i 0) (omega arith)

-- the answer, by the bytes that code reads
pub answer_read :
    (bytes : List ℕ) (f d e g : ℕ)
    → f ≡ byte_at bytes 1 → d ≡ byte_at bytes 4 → e ≡ byte_at bytes 5 → g ≡ byte_at bytes 6
    → record {
      q = eqb (f % 2) 1;
      x = eqb (f / 2 % 2) 1;
      err = eqb (f / 4 % 2) 1;
      derr = eqb (f / 8 % 2) 1;
      tpe = eqb (f / 16 % 2) 1;
      lpe = eqb (f / 32 % 2) 1;
      word = d + e * 256 + g * 65536;
    } ≡ answer_in bytes
unfolding answer_in
answer_read bytes f d e g ef ed ee eg = rw (← ef, ← ed, ← ee, ← eg) (simp div-one)

-- Form -------------------------------------------------------------------------------------------------------------------

kind_known : (k : ℕ) (a : Answer) → is_some_reply (of_kind k a) ≡ leb k 3
kind_known zero a = refl
kind_known (suc zero) a = refl
kind_known (suc (suc zero)) a = refl
kind_known (suc (suc (suc zero))) a = refl
kind_known (suc (suc (suc (suc k)))) a = sym (lt-leb (suc (suc (suc (suc k)))) 3 (omega arith))

pub formed_is : (bytes : List ℕ) → is_formed bytes ≡ has_form bytes && leb (byte_at bytes 0) 3
unfolding reply_of
formed_is bytes = on (has_form bytes) (λ h. rw h (kind_known (byte_at bytes 0) (answer_in bytes))) (λ h. rw h)

module _ (bytes : List ℕ) (formed : is_formed bytes ≡ true) where
  pub formed_has_form : has_form bytes ≡ true
  formed_has_form = and_left _ _ (sym (formed_is bytes) ∙ formed)

  pub formed_length : length bytes ≡ 8
  unfolding has_form
  formed_length = eqb-true _ _ (and_left (eqb (length bytes) 8) _ formed_has_form)

pub unformed : (bytes : List ℕ) → (is_formed bytes ≡ true → ⊥) → false ≡ is_formed bytes
unformed bytes h = on (is_formed bytes) (λ e. absurd (h e)) (λ e. sym e)

pub unformed_none : (bytes : List ℕ) → is_formed bytes ≡ false → reply_of bytes ≡ none
unformed_none bytes e = go (reply_of bytes) e
  where
    go : (x : Option Reply) → is_some_reply x ≡ false → x ≡ none
    go none e = refl
    go (some r) e = absurd (true_not_false e)

-- Formed bytes -----------------------------------------------------------------------------------------------------------

module _ (bytes : List ℕ) (formed : is_formed bytes ≡ true) where
  reply_kind : reply_of bytes ≡ of_kind (byte_at bytes 0) (answer_in bytes)
  unfolding reply_of
  reply_kind = rw (formed_has_form bytes formed)

  pub reply_answer : byte_at bytes 0 ≡ 0 → (a : Answer) → a ≡ answer_in bytes → reply_of bytes ≡ some (Answered a)
  reply_answer e a h = reply_kind ∙ rw (e, h)

  pub reply_timeout : byte_at bytes 0 ≡ 1 → reply_of bytes ≡ some Timeout
  reply_timeout e = reply_kind ∙ rw e

  pub reply_not_recognised : byte_at bytes 0 ≡ 2 → reply_of bytes ≡ some NotRecognised
  reply_not_recognised e = reply_kind ∙ rw e

  pub reply_no_sync :
      ¬ (byte_at bytes 0 ≡ 0) → ¬ (byte_at bytes 0 ≡ 1) → ¬ (byte_at bytes 0 ≡ 2) → reply_of bytes ≡ some NoSync
  reply_no_sync a b c = reply_kind ∙ go (byte_at bytes 0) a b c (ap is_some_reply (sym reply_kind) ∙ formed)
    where
      go :
          (k : ℕ) → ¬ (k ≡ 0) → ¬ (k ≡ 1) → ¬ (k ≡ 2)
          → is_some_reply (of_kind k (answer_in bytes)) ≡ true → of_kind k (answer_in bytes) ≡ some NoSync
      go zero a b c e = absurd (a refl)
      go (suc zero) a b c e = absurd (b refl)
      go (suc (suc zero)) a b c e = absurd (c refl)
      go (suc (suc (suc zero))) a b c e = refl
      go (suc (suc (suc (suc k)))) a b c e = absurd (true_not_false (sym e))

pub reply_short : (bytes : List ℕ) → ¬ (length bytes ≡ 8) → none ≡ reply_of bytes
reply_short bytes h = sym (unformed_none bytes (sym (unformed bytes (λ e. h (formed_length bytes e)))))
