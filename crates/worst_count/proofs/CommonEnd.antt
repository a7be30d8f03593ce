-- Two walks that end with the same visits: a run among these finds the same instruction on either walk, and a reply leaves it among them or
-- ended, because a walk visits no instruction twice. So both runs go on alike.
use Prim.Native.Nat.{ℕ, ◌-◌}
use mathlib.Core.Path.{◌≡◌, refl, sym, ap, ◌∙◌, subst}
use mathlib.Core.Bool.{Bool, true, false}
use mathlib.Core.List.{List, [], ◌∷◌, ◌++◌, append_assoc}
use native.Mathlib.Omega.{arith}
use lib.Dec.{eqb}
use lib.ListN.{length}
use lib.Seq.{append_snoc}
use Rattle.std.specs.Prelude.{if◌then◌else◌}
use Rattle.base.proofs.Tests.{on, true_not_false}
use Rattle.camac.specs.Words.{qmode_of}
use Rattle.camac.specs.declared.words.Command.{Command}
use Rattle.listfile.specs.declared.field.Instruction.{Instruction}
use Rattle.listfile.specs.declared.field.Instruction.TheVariants.{Camac, Jump, Literal, Halt}
use Rattle.qmodes.specs.Modes.{left_undone}
use Rattle.walk.specs.Walk.{Visit, on_from}
use Rattle.walk.specs.Admission.{Plan}
use Rattle.walk.specs.declared.visits.Spot.{Spot}
use Rattle.walk.proofs.Halting.{Distinct, Halts, halts_after}
use Rattle.reply.specs.Causes.{done_by, causes_of}
use Rattle.reply.specs.Effect.{State, with_run, ended_at, waits_for, put_literal, run_on}
use Rattle.reply.specs.Effect.{longword_of, moved_record, move_word, counted, waiting, go_on, by_causes, take_reply}
use Rattle.reply.specs.declared.replies.Reply.{Reply}
use Rattle.calls.specs.Calls.{take_from, take_at}
use Rattle.worst_count.specs.ShortBlocks.{bare, along}
use Rattle.worst_count.proofs.Live.{camac_visit, found_at}
use Rattle.worst_count.proofs.Bare.{takes_alike}

-- A spot on a walk -------------------------------------------------------------------------------------------------------

-- as much is ahead of a spot, wherever it was found
pub ahead_once : (l pre : List Visit) (v : Visit) (post pre' : List Visit) (v' : Visit) (post' : List Visit) → Distinct l
    → l ≡ pre ++ v ∷ post → l ≡ pre' ++ v' ∷ post' → v.spot ≡ v'.spot → length post ≡ length post'
ahead_once l pre v post pre' v' post' d e e' same =
    let lists : v ∷ post ≡ v' ∷ post' = sym (found_at l pre v post d e).1 ∙ ap (λ (k : Spot). on_from k l) same ∙ (found_at l pre' v' post' d e').1 in
    omega (arith, ap length lists)

pub takes_at : (p : Plan) → Distinct p.visits → (pre : List Visit) (place : ℕ) (c : Command) (post : List Visit) (s : State)
    → p.visits ≡ pre ++ camac_visit s.run.spot place c ∷ post → (x : Reply) → take_at p x s ≡ take_reply p.limit post c x s
unfolding take_at take_from
takes_at p d pre place c post s e x = rw (found_at p.visits pre (camac_visit s.run.spot place c) post d e).1

-- Over replies -----------------------------------------------------------------------------------------------------------

pub along_over : (p : Plan) (xs : List Reply) (s : State) → s.run.ended ≡ true → along p xs s ≡ s
unfolding along
along_over p [] s e = refl
along_over p (x ∷ xs) s e = ap (λ (b : Bool). if b then s else along p xs (take_at p x s)) e

pub along_on : (p : Plan) (x : Reply) (xs : List Reply) (s : State) → s.run.ended ≡ false → along p (x ∷ xs) s ≡ along p xs (take_at p x s)
unfolding along
along_on p x xs s e = ap (λ (b : Bool). if b then s else along p xs (take_at p x s)) e

-- A reply, whatever is ahead ---------------------------------------------------------------------------------------------

-- it ends the run, leaves it where it is, or lets it go on
pub data Taken (s : State) (f : List Visit → State) : Type 0 where
  ends : (t : State) → ((rest : List Visit) → f rest ≡ t) → t.run.ended ≡ true → Taken s f
  waits : (t : State) → ((rest : List Visit) → f rest ≡ t) → t.run.spot ≡ s.run.spot → Taken s f
  goes : (t : State) → ((rest : List Visit) → f rest ≡ run_on rest t) → Taken s f

pub taken : (limit : ℕ) (c : Command) (x : Reply) (s : State) → Taken s (λ (rest : List Visit). take_reply limit rest c x s)
unfolding take_reply by_causes go_on counted ended_at move_word moved_record waiting
taken limit c x s = by_row (causes_of limit c s.run x) (done_by (qmode_of c.transfer) x)
  where
    s₀ : State
    s₀ = with_run (counted limit c x s.run) s

    word : ℕ
    word = longword_of x

    by_row : (codes : List ℕ) (is_done : Bool) → Taken s (λ (rest : List Visit). by_causes codes rest c is_done word s₀)
    by_row (code ∷ codes) is_done = ends (by_causes (code ∷ codes) [] c is_done word s₀) (λ rest. refl) refl
    by_row [] true = on (eqb (s.run.left - 1) 0)
        (λ e. goes (move_word c word s₀) (λ rest. rw e))
        (λ e. waits (go_on [] c true word s₀) (λ rest. rw e) (rw e))
    by_row [] false = on (eqb (left_undone (qmode_of c.transfer) s.run.left) 0)
        (λ e. goes s₀ (λ rest. rw e))
        (λ e. waits (go_on [] c false word s₀) (λ rest. rw e) (rw e))

-- Among the last visits --------------------------------------------------------------------------------------------------

-- a run that has ended, or waits at one of some visits
pub data Past (vs : List Visit) (s : State) : Type 0 where
  over : s.run.ended ≡ true → Past vs s
  later : (pre : List Visit) (place : ℕ) (c : Command) (post : List Visit) → vs ≡ pre ++ camac_visit s.run.spot place c ∷ post → Past vs s

pub runs_past : (after vs pre : List Visit) → after ≡ pre ++ vs → Halts vs → (s : State) → Past after (run_on vs s)
unfolding run_on waits_for ended_at
runs_past after [] pre e h s = absurd h
runs_past after (v ∷ vs) pre e h s = at v.instruction e h (runs_past after vs (pre ++ v ∷ []) (e ∙ sym (append_snoc pre v vs)))
  where
    at : (i : Instruction) → after ≡ pre ++ record { spot = v.spot; place = v.place; instruction = i } ∷ vs
        → Halts (record { spot = v.spot; place = v.place; instruction = i } ∷ vs) → (Halts vs → (s : State) → Past after (run_on vs s))
        → Past after (run_on (record { spot = v.spot; place = v.place; instruction = i } ∷ vs) s)
    at (Camac c) e h ih = later pre v.place c vs e
    at (Jump target) e h ih = ih h s
    at (Literal x) e h ih = ih h (put_literal x s)
    at Halt e h ih = over refl

module _ (after : List Visit) (h : Halts after) where
  post_halts : (pre : List Visit) (v : Visit) (post : List Visit) {c : Command} → v.instruction ≡ Camac c → after ≡ pre ++ v ∷ post → Halts post
  post_halts pre v post e cut = halts_after pre v post e (subst Halts cut h)

  on_plan : (p : Plan) (first : List Visit) → p.visits ≡ first ++ after → Distinct p.visits → (pre : List Visit) (place : ℕ) (c : Command)
      (post : List Visit) (s : State) → after ≡ pre ++ camac_visit s.run.spot place c ∷ post → (x : Reply)
      → take_at p x s ≡ take_reply p.limit post c x s
  on_plan p first split d pre place c post s cut x =
      takes_at p d (first ++ pre) place c post s
      (split ∙ ap (λ (l : List Visit). first ++ l) cut ∙ sym (append_assoc first pre (camac_visit s.run.spot place c ∷ post))) x

  pub past_takes : (p : Plan) (first : List Visit) → p.visits ≡ first ++ after → Distinct p.visits → (s : State) → s.run.ended ≡ false
      → Past after s → (x : Reply) → Past after (take_at p x s)
  past_takes p first split d s e (over o) x = absurd (true_not_false (sym o ∙ e))
  past_takes p first split d s e (later pre place c post cut) x =
      rw (on_plan p first split d pre place c post s cut x) (by_reply (taken p.limit c x s))
    where
      v : Visit
      v = camac_visit s.run.spot place c

      by_reply : Taken s (λ (rest : List Visit). take_reply p.limit rest c x s) → Past after (take_reply p.limit post c x s)
      by_reply (ends t f o) = over (rw f o)
      by_reply (waits t f same) = later pre place c post (rw (f, same) cut)
      by_reply (goes t f) =
          rw f (runs_past after post (pre ++ v ∷ []) (cut ∙ sym (append_snoc pre v post)) (post_halts pre v post refl cut) t)

  module _ (p q : Plan) (first first' : List Visit) (split : p.visits ≡ first ++ after) (split' : q.visits ≡ first' ++ after)
      (d : Distinct p.visits) (d' : Distinct q.visits) (limits : p.limit ≡ q.limit) where
    both_take : (s t : State) → s.run.ended ≡ false → Past after s → bare s ≡ bare t → (x : Reply) → bare (take_at p x s) ≡ bare (take_at q x t)
    both_take s t e (over o) same x = absurd (true_not_false (sym o ∙ e))
    both_take s t e (later pre place c post cut) same x =
        let spots : s.run.spot ≡ t.run.spot = ap (λ (z : State). z.run.spot) same in
        rw (on_plan p first split d pre place c post s cut x, on_plan q first' split' d' pre place c post t (rw (← spots) cut) x, limits)
        (takes_alike post (post_halts pre (camac_visit s.run.spot place c) post refl cut) c q.limit x s t same)

    pub ends_alike : (xs : List Reply) (s t : State) → Past after s → bare s ≡ bare t → bare (along p xs s) ≡ bare (along q xs t)
    unfolding along
    ends_alike [] s t past same = same
    ends_alike (x ∷ xs) s t past same =
        let ended : t.run.ended ≡ s.run.ended = ap (λ (z : State). z.run.ended) (sym same) in
        on s.run.ended (λ e. rw (along_over p (x ∷ xs) s e, along_over q (x ∷ xs) t (ended ∙ e)) same)
        (λ e. rw (along_on p x xs s e, along_on q x xs t (ended ∙ e))
        (ends_alike xs (take_at p x s) (take_at q x t) (past_takes p first split d s e past x) (both_take s t e past same x)))
