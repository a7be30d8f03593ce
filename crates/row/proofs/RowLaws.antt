-- A row by its places: eight bytes at a place are its first reply, and the rest begins eight bytes on. A formed row ends with its last reply.
use Prim.Native.Nat.{ℕ, ◌+◌, ◌≤◌, ◌<◌}
use mathlib.Core.Path.{◌≡◌, refl, sym, ap, ◌∙◌}
use mathlib.Core.Bool.{true, false, false≢true}
use mathlib.Core.List.{List, [], ◌∷◌}
use mathlib.Core.Option.{Option, none, some}
use native.Mathlib.Omega.{arith}
use borrow.Author.Tests.{eqb-true, eqb-false}
use lib.Dec.{eqb}
use lib.ListN.{length, take, drop, length-take, length-drop, drop_of_length-le}
use lib.Seq.{drop-drop}
use Rattle.std.specs.Prelude.{if◌then◌else◌}
use Rattle.reply.specs.Replies.{reply_of, is_some_reply, is_formed, replies_in, all_formed}
use Rattle.reply.specs.declared.replies.Reply.{Reply}
use Rattle.base.proofs.Tests.{on}
use Rattle.reply.proofs.ReplyFacts.{formed_length, unformed}
use Rattle.reply.proofs.Rows.{replies_none, replies_more}
use Rattle.row.specs.model.Words.{FormedFrom}

-- a formed row's first reply, and the rest of it
pub record FormedHead (r : List ℕ) (rs : List (List ℕ)) : Type 0 where
  pub reply : Reply
  pub is : reply_of r ≡ some reply
  pub rest : all_formed rs ≡ true

pub formed_head : (r : List ℕ) (rs : List (List ℕ)) → all_formed (r ∷ rs) ≡ true → FormedHead r rs
unfolding all_formed
formed_head r rs h = go (reply_of r) refl h
  where
    go : (x : Option Reply) → reply_of r ≡ x → (if is_some_reply x then all_formed rs else false) ≡ true → FormedHead r rs
    go none e h = absurd (false≢true h)
    go (some reply) e h = record { reply = reply; is = e; rest = h }

module _ (row : List ℕ) (at : ℕ) where
  pub row_cut : at < length row → replies_in (drop at row) ≡ take 8 (drop at row) ∷ replies_in (drop (at + 8) row)
  row_cut h =
      replies_more (drop at row) (omega (arith, length-drop at row))
      ∙ ap (λ (bytes : List ℕ). take 8 (drop at row) ∷ replies_in bytes) (drop-drop 8 at row)

  pub row_end : length row ≤ at → replies_in (drop at row) ≡ []
  row_end h = ap replies_in (drop_of_length-le row h) ∙ replies_none

  -- The form of a row ----------------------------------------------------------------------------------------------------

  -- what the check finds at a place
  pub formed_cut : at < length row → is_formed (take 8 (drop at row)) ≡ true
      → all_formed (replies_in (drop at row)) ≡ all_formed (replies_in (drop (at + 8) row))
  unfolding all_formed
  formed_cut h e = ap all_formed (row_cut h) ∙ rw e

  pub unformed_cut : at < length row → is_formed (take 8 (drop at row)) ≡ false → false ≡ all_formed (replies_in (drop at row))
  unfolding all_formed
  unformed_cut h e = sym (ap all_formed (row_cut h) ∙ rw e)

  pub unformed_short : at < length row → length row < at + 8 → false ≡ all_formed (replies_in (drop at row))
  unformed_short h g =
      unformed_cut h (sym (unformed (take 8 (drop at row))
      (λ e. omega (arith, formed_length (take 8 (drop at row)) e, length-take 8 (drop at row), length-drop at row))))

  pub formed_end : length row ≤ at → true ≡ all_formed (replies_in (drop at row))
  unfolding all_formed
  formed_end h = ap all_formed (sym (row_end h))

  -- whether whole replies fill the row
  pub formed_whole : at ≤ length row → length row < at + 8 → eqb at (length row) ≡ all_formed (replies_in (drop at row))
  formed_whole h g =
      on (eqb at (length row))
      (λ e. e ∙ formed_end (omega (arith, eqb-true at (length row) e)))
      (λ e. let other : ¬ (at ≡ length row) = eqb-false at (length row) e in e ∙ unformed_short (omega arith) g)

  -- behind the last whole reply
  pub formed_last : FormedFrom row at → length row < at + 8 → length row ≤ at
  formed_last f g = omega (arith, eqb-true at (length row) (formed_whole f.within g ∙ f.formed))

  -- a formed row at a place before its end: a reply, eight bytes long, and the row behind it
  pub record FormedHere : Type 0 where
    pub reply : Reply
    pub is : reply_of (take 8 (drop at row)) ≡ some reply
    pub formed : is_formed (take 8 (drop at row)) ≡ true
    pub eight : at + 8 ≤ length row
    pub behind : FormedFrom row (at + 8)

  pub formed_here : FormedFrom row at → at < length row → FormedHere
  formed_here f h =
      let x = formed_head (take 8 (drop at row)) (replies_in (drop (at + 8) row)) (ap all_formed (sym (row_cut h)) ∙ f.formed) in
      let formed : is_formed (take 8 (drop at row)) ≡ true = rw x.is in
      let eight : at + 8 ≤ length row =
      omega (arith, formed_length (take 8 (drop at row)) formed, length-take 8 (drop at row), length-drop at row) in
      record { reply = x.reply; is = x.is; formed = formed; eight = eight; behind = record { formed = x.rest; within = eight } }

-- a row at its beginning
pub formed_start : (row : List ℕ) → all_formed (replies_in row) ≡ true → FormedFrom row 0
formed_start row e = record { formed = e; within = omega arith }
