-- A reply taken is what happens at its operation and then, where it is through, the rest of the walk. The row of causes is empty,
-- or its greatest code ends the run.
use Prim.Native.Nat.{ℕ, ◌-◌}
use mathlib.Core.Path.{◌≡◌, refl, ap}
use mathlib.Core.Logic.{◌⊎◌, inl, inr}
use mathlib.Core.Bool.{Bool, true, false, ◌&&◌}
use mathlib.Core.List.{List, [], ◌∷◌}
use native.Mathlib.Omega.{arith}
use borrow.Author.Tests.{ne_eqb}
use lib.Dec.{eqb}
use Rattle.std.specs.Prelude.{if◌then◌else◌}
use Rattle.qmodes.specs.Modes.{left_undone, left_after}
use Rattle.camac.specs.Words.{qmode_of}
use Rattle.camac.specs.declared.words.Command.{Command}
use Rattle.walk.specs.Walk.{Visit, moved}
use Rattle.take.specs.declared.Taken.TheVariants.{Through}
use Rattle.reply.specs.Causes.{done_by, causes_of, greatest, code_of, only_nine}
use Rattle.reply.specs.Effect.{moved_record, State, with_run, ended_at, longword_of, move_word, counted, go_on, by_causes, take_reply, state_of}
use Rattle.take.specs.model.Here.{on_run, moved_if, bytes_if, moves_at_end, moves_word, here_run, here_buffer, resumed}
use Rattle.reply.specs.declared.replies.Reply.{Reply}
use Rattle.reply.specs.declared.records.Record.{Record}
use Rattle.base.proofs.Tests.{on}
use Rattle.reply.proofs.CodeCases.{cause_numbered}

module _ (limit : ℕ) (rest : List Visit) (c : Command) (reply : Reply) (r : Record) (incoming outgoing : List ℕ) where
  abbrev counting : State
  counting = state_of (counted limit c reply r) incoming outgoing

  goes_on :
      (word : ℕ) (x : Bool)
      → go_on rest c x word counting
      ≡ resumed rest (on_run c x r (moved_if x c (counted limit c reply r))) (bytes_if x c word r.marks.incoming incoming) outgoing
  unfolding go_on on_run counted move_word
  goes_on word true = on (eqb (r.left - 1) 0) (λ e. rw e) (λ e. rw e)
  goes_on word false = on (eqb (left_undone (qmode_of c.transfer) r.left) 0) (λ e. rw e) (λ e. rw e)

  ends :
      (code : ℕ) (word : ℕ) (moves : Bool)
      → with_run
      (ended_at r.spot code (if moves then move_word c word counting else counting).run)
      (if moves then move_word c word counting else counting)
      ≡ state_of (ended_at r.spot code (moved_if moves c (counted limit c reply r))) (bytes_if moves c word r.marks.incoming incoming) outgoing
  unfolding counted move_word
  ends code word true = refl
  ends code word false = refl

  code_is : (cs : List ℕ) → causes_of limit c r reply ≡ cs → code_of limit c r reply ≡ greatest cs
  unfolding code_of
  code_is cs e = ap greatest e

  by_row :
      (cs : List ℕ) → causes_of limit c r reply ≡ cs
      → by_causes cs rest c (done_by (qmode_of c.transfer) reply) (longword_of reply) counting
      ≡ resumed rest (here_run limit c reply r) (here_buffer limit c reply r incoming) outgoing
  unfolding by_causes here_run here_buffer moves_word moves_at_end counted
  by_row [] e =
      let z : code_of limit c r reply ≡ 0 = code_is [] e in rw z (goes_on (longword_of reply) (done_by (qmode_of c.transfer) reply))
  by_row (code ∷ codes) e =
      let z : code_of limit c r reply ≡ greatest (code ∷ codes) = code_is (code ∷ codes) e in
      rw (z, ne_eqb (greatest (code ∷ codes)) 0 (λ q. omega (arith, cause_numbered limit c r reply e)), e)
      (ends (greatest (code ∷ codes)) (longword_of reply) (done_by (qmode_of c.transfer) reply && only_nine (code ∷ codes)))

  pub take_here :
      take_reply limit rest c reply (state_of r incoming outgoing)
      ≡ resumed rest (here_run limit c reply r) (here_buffer limit c reply r incoming) outgoing
  unfolding take_reply
  take_here = by_row (causes_of limit c r reply) refl

-- through: the record at the same instruction, its last word moved or, where its block is closed, none
pub record Passed (c : Command) (r r' : Record) : Type 0 where
  pub marks : (r'.marks ≡ moved c r.marks) ⊎ (r'.marks ≡ r.marks)
  pub spot : r'.spot ≡ r.spot

pub through : (limit : ℕ) (c : Command) (reply : Reply) (r r' : Record) → here_run limit c reply r ≡ Through r' → Passed c r r'
unfolding here_run on_run moved_record counted
through limit c reply r r' h =
    on (eqb (code_of limit c r reply) 0)
    (λ e. by_done (done_by (qmode_of c.transfer) reply) (rw e at h))
    (λ e. let x = rw e at h in let z : ◌≡◌ {A = ℕ} 0 1 = cc in absurd (omega arith))
  where
    is_it : (a : Record) → Through a ≡ Through r' → r' ≡ a
    is_it a e = cc

    passed : (x : Bool) → r' ≡ moved_if x c (counted limit c reply r) → Passed c r r'
    passed true q = record { marks = inl (ap (λ (x : Record). x.marks) q); spot = ap (λ (x : Record). x.spot) q }
    passed false q = record { marks = inr (ap (λ (x : Record). x.marks) q); spot = ap (λ (x : Record). x.spot) q }

    by_done : (x : Bool) → on_run c x r (moved_if x c (counted limit c reply r)) ≡ Through r' → Passed c r r'
    by_done x h =
        on (eqb (left_after (qmode_of c.transfer) x r.left) 0)
        (λ e. passed x (is_it (moved_if x c (counted limit c reply r)) (rw e at h)))
        (λ e. let y = rw e at h in let z : ◌≡◌ {A = ℕ} 0 1 = cc in absurd (omega arith))
