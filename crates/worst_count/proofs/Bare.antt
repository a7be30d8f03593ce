-- Runs that differ only in operations and status go on alike: nothing reads either of them but to add to it. A run that goes on to the next
-- operation or the halt also forgets where it was: only its marks, its note and its bytes tell what it comes to.
use Prim.Native.Nat.{ℕ, ◌-◌}
use mathlib.Core.Path.{◌≡◌, refl, sym, ap, ◌∙◌}
use mathlib.Core.Bool.{Bool, true, false}
use mathlib.Core.List.{List, [], ◌∷◌}
use lib.Dec.{eqb}
use Rattle.base.proofs.Tests.{on}
use Rattle.camac.specs.Words.{qmode_of, direction_of}
use Rattle.camac.specs.declared.words.Command.{Command}
use Rattle.camac.specs.declared.words.Direction.{Direction}
use Rattle.camac.specs.declared.words.Direction.TheVariants.{Incoming, Outgoing, Neither}
use Rattle.listfile.specs.declared.field.Instruction.{Instruction}
use Rattle.listfile.specs.declared.field.Instruction.TheVariants.{Camac, Jump, Literal, Halt}
use Rattle.qmodes.specs.Modes.{left_undone}
use Rattle.walk.specs.Walk.{Visit}
use Rattle.walk.proofs.Halting.{Halts}
use Rattle.reply.specs.Causes.{done_by, cause_checks, causes_of, only_nine}
use Rattle.reply.specs.Effect.{State, zero_record, with_run, ended_at, waits_for, put_literal, run_on}
use Rattle.reply.specs.Effect.{longword_of, note_after, moved_record, move_word, counted, waiting, go_on, by_causes, take_reply}
use Rattle.reply.specs.declared.records.Record.{Record}
use Rattle.reply.specs.declared.replies.Reply.{Reply}
use Rattle.reply.specs.declared.replies.Reply.TheVariants.{Answered, Timeout, NotRecognised, NoSync}
use Rattle.worst_count.specs.ShortBlocks.{bare}

-- all that a run reads on its way to the next operation: the marks, the note and the bytes
abbrev pub carried : State → State
carried s = record {
  run = record {
    ended = false;
    spot = (zero_record false).spot;
    left = 0;
    tries = 0;
    position = (zero_record false).position;
    marks = s.run.marks;
    operations = 0;
    status = 0;
    note = s.run.note;
  };
  incoming = s.incoming;
  outgoing = s.outgoing;
}

runs_carried : (vs : List Visit) → Halts vs → (s : State) → bare (run_on vs s) ≡ bare (run_on vs (carried s))
unfolding run_on waits_for ended_at put_literal
runs_carried [] h s = absurd h
runs_carried (v ∷ vs) h s = at v.instruction h (runs_carried vs)
  where
    at : (i : Instruction) → Halts (record { spot = v.spot; place = v.place; instruction = i } ∷ vs)
        → (Halts vs → (s : State) → bare (run_on vs s) ≡ bare (run_on vs (carried s)))
        → bare (run_on (record { spot = v.spot; place = v.place; instruction = i } ∷ vs) s)
        ≡ bare (run_on (record { spot = v.spot; place = v.place; instruction = i } ∷ vs) (carried s))
    at (Camac c) h ih = refl
    at (Jump target) h ih = ih h s
    at (Literal x) h ih = ih h (put_literal x s) ∙ sym (ih h (put_literal x (carried s)))
    at Halt h ih = refl

pub runs_alike : (vs : List Visit) → Halts vs → (s t : State) → carried s ≡ carried t → bare (run_on vs s) ≡ bare (run_on vs t)
runs_alike vs h s t e = runs_carried vs h s ∙ ap (λ (x : State). bare (run_on vs x)) e ∙ sym (runs_carried vs h t)

-- the note reads the marks and the note before
pub same_note : (d : Direction) (wide : Bool) (r r' : Record) → r.marks ≡ r'.marks → r.note ≡ r'.note → note_after d wide r ≡ note_after d wide r'
same_note Incoming wide r r' m n = rw m
same_note Outgoing wide r r' m n = rw m
same_note Neither wide r r' m n = n

module _ (rest : List Visit) (h : Halts rest) (c : Command) where
  same_word : (s : State) → note_after (direction_of c.transfer) c.wide s.run ≡ note_after (direction_of c.transfer) c.wide (bare s).run
  same_word s = same_note (direction_of c.transfer) c.wide s.run (bare s).run refl refl

  goes_bare : (is_done : Bool) (word : ℕ) (s : State) → bare (go_on rest c is_done word s) ≡ bare (go_on rest c is_done word (bare s))
  unfolding go_on move_word moved_record waiting
  goes_bare true word s = on (eqb (s.run.left - 1) 0)
      (λ e. rw e (runs_alike rest h (move_word c word s) (move_word c word (bare s)) (rw (same_word s))))
      (λ e. rw (e, same_word s))
  goes_bare false word s =
      on (eqb (left_undone (qmode_of c.transfer) s.run.left) 0) (λ e. rw e (runs_alike rest h s (bare s) refl)) (λ e. rw e)

  by_bare : (codes : List ℕ) (is_done : Bool) (word : ℕ) (s : State)
      → bare (by_causes codes rest c is_done word s) ≡ bare (by_causes codes rest c is_done word (bare s))
  unfolding by_causes ended_at move_word moved_record
  by_bare [] is_done word s = goes_bare is_done word s
  by_bare (code ∷ codes) true word s = on (only_nine (code ∷ codes)) (λ e. rw (e, same_word s)) (λ e. rw e)
  by_bare (code ∷ codes) false word s = refl

  causes_bare : (limit : ℕ) (x : Reply) (s : State) → causes_of limit c s.run x ≡ causes_of limit c (bare s).run x
  unfolding causes_of cause_checks
  causes_bare limit (Answered a) s = refl
  causes_bare limit Timeout s = refl
  causes_bare limit NotRecognised s = refl
  causes_bare limit NoSync s = refl

  takes_bare : (limit : ℕ) (x : Reply) (s : State) → bare (take_reply limit rest c x s) ≡ bare (take_reply limit rest c x (bare s))
  unfolding take_reply counted
  takes_bare limit x s =
      let same : (t : State) → bare (by_causes_lem t) ≡ bare (by_causes_lem (bare t)) =
      by_bare (causes_of limit c s.run x) (done_by (qmode_of c.transfer) x) (longword_of x) in
      rw (← causes_bare limit x s) (same (with_run (counted limit c x s.run) s) ∙ sym (same (with_run (counted limit c x (bare s).run) (bare s))))
    where
      by_causes_lem : State → State
      by_causes_lem t = by_causes (causes_of limit c s.run x) rest c (done_by (qmode_of c.transfer) x) (longword_of x) t

  pub takes_alike : (limit : ℕ) (x : Reply) (s t : State) → bare s ≡ bare t
      → bare (take_reply limit rest c x s) ≡ bare (take_reply limit rest c x t)
  takes_alike limit x s t e = takes_bare limit x s ∙ ap (λ (z : State). bare (take_reply limit rest c x z)) e ∙ sym (takes_bare limit x t)
