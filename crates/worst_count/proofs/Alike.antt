-- Instructions that are alike run the same: each definition reads an instruction only by its Q-mode, whether it is a block, words wanted,
-- direction, N and A, word size and AD, so that rewriting with the equations of Alike makes both sides the same. Both kinds of blocks are alike by computing.
use Prim.Native.Nat.{ℕ, zero, suc}
use mathlib.Core.Path.{◌≡◌, refl, ap}
use mathlib.Core.List.{List, [], ◌∷◌}
use mathlib.Core.Bool.{Bool, true}
use borrow.Author.Tests.{eqb-true}
use lib.Dec.{eqb, ltb}
use Rattle.base.proofs.Bools.{and_left, and_right}
use Rattle.base.proofs.Tests.{on}
use Rattle.camac.specs.Words.{qmode_of, is_block, address_of, words_of, direction_of, is_sequencer_at}
use Rattle.camac.specs.declared.words.Address.{Address}
use Rattle.camac.specs.declared.words.Transfer.TheVariants.{Block, Enhanced}
use Rattle.camac.specs.declared.words.Command.{Command}
use Rattle.camac.proofs.BitLaws.{by_function}
use Rattle.packing.specs.declared.Marks.{Marks}
use Rattle.listfile.specs.declared.field.Instruction.TheVariants.{Camac}
use Rattle.qmodes.specs.declared.modes.QMode.{QMode}
use Rattle.qmodes.specs.declared.modes.QMode.TheVariants.{Ignore}
use Rattle.walk.specs.Walk.{Visit, moved, moved_words, marks_after}
use Rattle.walk.specs.Worst.{worst_of}
use Rattle.walk.specs.declared.visits.Spot.{Spot}
use Rattle.reply.specs.Causes.{cause_checks, causes_of, greatest, code_of}
use Rattle.reply.specs.Status.{flags_of}
use Rattle.reply.specs.Effect.{State, waits_for, moved_record, moved_bytes, move_word, counted, go_on, by_causes, take_reply}
use Rattle.reply.specs.declared.records.Record.{Record}
use Rattle.reply.specs.declared.replies.Reply.{Reply}
use Rattle.reply.specs.declared.replies.Reply.TheVariants.{Answered, Timeout, NotRecognised, NoSync}
use Rattle.calls.specs.Fit.{marks_fit, fits_at}
use Rattle.worst_count.specs.Slowest.{slowest_reply}
use Rattle.worst_count.specs.Kinds.{Alike, SameRun, plain_address, Kinds}

module _ (c d : Command) (a : Alike c d) where
  same_worst : (limit : ℕ) → worst_of limit (Camac c) ≡ worst_of limit (Camac d)
  unfolding worst_of
  same_worst limit = rw (a.qmode, a.words, a.position)

  same_moved : (m : Marks) → moved c m ≡ moved d m
  unfolding moved
  same_moved m = rw (a.direction, a.wide)

  same_words : (k : ℕ) (m : Marks) → moved_words k c m ≡ moved_words k d m
  unfolding moved_words
  same_words zero m = refl
  same_words (suc k) m = rw (same_words k m, same_moved)

  same_after : (m : Marks) → marks_after (Camac c) m ≡ marks_after (Camac d) m
  unfolding marks_after
  same_after m = rw (a.words, same_words)

  same_waits : (s : Spot) (r : Record) → waits_for s c r ≡ waits_for s d r
  unfolding waits_for
  same_waits s r = rw (a.words, a.position)

  same_fit : (limit worst : ℕ) (m : Marks) (rest : ℕ) (r : Record) → fits_at limit worst c m rest r ≡ fits_at limit worst d m rest r
  unfolding fits_at marks_fit
  same_fit limit worst m rest r = rw (a.qmode, a.words, a.position, same_words)

  same_causes : (limit : ℕ) (r : Record) (reply : Reply) → causes_of limit c r reply ≡ causes_of limit d r reply
  unfolding causes_of cause_checks
  same_causes limit r NoSync = refl
  same_causes limit r NotRecognised = refl
  same_causes limit r Timeout = refl
  same_causes limit r (Answered x) = rw (a.qmode, a.block, a.ad)

  same_code : (limit : ℕ) (r : Record) (reply : Reply) → code_of limit c r reply ≡ code_of limit d r reply
  unfolding code_of
  same_code limit r reply = ap greatest (same_causes limit r reply)

  same_flags : (limit : ℕ) (r : Record) (reply : Reply) → flags_of limit c r reply ≡ flags_of limit d r reply
  unfolding flags_of
  same_flags limit r NoSync = refl
  same_flags limit r NotRecognised = refl
  same_flags limit r Timeout = refl
  same_flags limit r (Answered x) = rw a.qmode

  same_move : (word : ℕ) (s : State) → move_word c word s ≡ move_word d word s
  unfolding move_word moved_record moved_bytes
  same_move word s = rw (same_moved, a.direction, a.wide)

  same_on : (rest : List Visit) (is_done : Bool) (word : ℕ) (s : State) → go_on rest c is_done word s ≡ go_on rest d is_done word s
  unfolding go_on
  same_on rest is_done word s = rw (same_move, a.qmode)

  same_by : (codes : List ℕ) (rest : List Visit) (is_done : Bool) (word : ℕ) (s : State)
      → by_causes codes rest c is_done word s ≡ by_causes codes rest d is_done word s
  unfolding by_causes
  same_by [] rest is_done word s = same_on rest is_done word s
  same_by (code ∷ codes) rest is_done word s = rw same_move

  same_effect : (limit : ℕ) (rest : List Visit) (reply : Reply) (s : State) → take_reply limit rest c reply s ≡ take_reply limit rest d reply s
  unfolding take_reply counted
  same_effect limit rest reply s = rw (same_causes, same_flags, a.qmode, same_by)

same_run : (c d : Command) → Alike c d → SameRun c d
same_run c d a = record {
  worst = same_worst c d a;
  marks = same_words c d a;
  marks_after_lem = same_after c d a;
  waits = same_waits c d a;
  fit = same_fit c d a;
  causes = same_causes c d a;
  code = same_code c d a;
  status = same_flags c d a;
  effect = same_effect c d a;
  slowest = λ limit r. ap (λ (q : QMode). slowest_reply limit q r) a.qmode;
}

-- F 12 is control, so that A says the sequencer's direction, and F that of the block beside it
sequencer_direction : (a : Address) (n : ℕ) → is_sequencer_at a ≡ true
    → direction_of (Enhanced Ignore a n) ≡ direction_of (Block Ignore (plain_address a) n)
unfolding direction_of
sequencer_direction a n s =
    let twelve : a.function ≡ 12 = eqb-true _ _ (and_left _ _ (and_right (eqb a.station 30) _ s)) in
    on (ltb a.subaddress 2) (λ e. rw (twelve, e)) (λ e. rw (twelve, e))

pub kinds : Kinds
unfolding qmode_of is_block words_of direction_of address_of
kinds = record {
  same = same_run;
  enhanced = λ q a n wide ad e. record {
    qmode = refl;
    block = refl;
    words = refl;
    direction = by_function a e;
    position = refl;
    wide = refl;
    ad = refl;
  };
  sequencer = λ a n wide ad s. record {
    qmode = refl;
    block = refl;
    words = refl;
    direction = sequencer_direction a n s;
    position = refl;
    wide = refl;
    ad = refl;
  };
}
