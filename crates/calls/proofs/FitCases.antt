-- The marks after some words in closed form, and fit as its two parts: a conjunction in another order.
use Prim.Native.Nat.{ℕ, zero, suc, ◌+◌, ◌≤◌}
use mathlib.Core.Path.{◌≡◌, refl, sym, ◌∙◌}
use mathlib.Core.Bool.{Bool, true, ◌&&◌, not, and-true, and_assoc, and_comm}
use borrow.Author.Tests.{leb-true}
use lib.Bits.{bit_and}
use lib.Dec.{leb, eqb}
use Rattle.base.proofs.Bools.{and_left, and_right}
use Rattle.camac.specs.Words.{qmode_of, words_of, position_of, direction_of}
use Rattle.qmodes.specs.declared.modes.QMode.{QMode}
use Rattle.camac.specs.declared.words.Command.{Command}
use Rattle.camac.specs.declared.words.Direction.{Direction}
use Rattle.camac.specs.declared.words.Direction.TheVariants.{Incoming, Outgoing, Neither}
use Rattle.qmodes.specs.declared.scan.ScanPosition.{ScanPosition}
use Rattle.packing.specs.Packing.{mark_after_words}
use Rattle.packing.specs.declared.Marks.{Marks}
use Rattle.walk.specs.Walk.{moved, moved_words}
use Rattle.qmodes.specs.Modes.{most_left, tries_fit, position_fits}
use Rattle.reply.specs.Status.{waiting_bits}
use Rattle.calls.specs.Fit.{marks_fit, note_fits, fits_at}
use Rattle.calls.specs.model.Bounds.{fits_command, fits_walk}
use Rattle.reply.specs.declared.records.Record.{Record}

-- The marks after some words ---------------------------------------------------------------------------------------------

module _ (c : Command) (d : Direction) (ed : d ≡ direction_of c.transfer) (m : Marks) where
  pub words_incoming :
      d ≡ Incoming → (k : ℕ)
      → record { incoming = mark_after_words c.wide k m.incoming; outgoing = m.outgoing } ≡ moved_words k c m
  unfolding moved_words moved mark_after_words
  words_incoming e zero = refl
  words_incoming e (suc k) = rw (← words_incoming e k, ← ed, e)

  pub words_outgoing :
      d ≡ Outgoing → (k : ℕ)
      → record { incoming = m.incoming; outgoing = mark_after_words c.wide k m.outgoing } ≡ moved_words k c m
  unfolding moved_words moved mark_after_words
  words_outgoing e zero = refl
  words_outgoing e (suc k) = rw (← words_outgoing e k, ← ed, e)

  pub words_neither : d ≡ Neither → (k : ℕ) → m ≡ moved_words k c m
  unfolding moved_words moved
  words_neither e zero = refl
  words_neither e (suc k) = rw (← words_neither e k, ← ed, e)

-- The two parts of fit ---------------------------------------------------------------------------------------------------

exchanged : (f g h i : Bool) → f && (g && (h && i)) ≡ h && (i && (f && g))
exchanged f g h i = sym (and_assoc f g (h && i)) ∙ and_comm (f && g) (h && i) ∙ and_assoc h i (f && g)

module _ (limit worst : ℕ) (c : Command) (m : Marks) (rest : ℕ) (r : Record) where
  pub fit_parts : fits_at limit worst c m rest r ≡ fits_command limit c r && fits_walk limit worst c m rest r
  unfolding fits_at fits_command fits_walk
  fit_parts =
      simp (and_assoc, and-true)
      (rw (exchanged
      (marks_fit c m r)
      (leb (r.operations + most_left limit (qmode_of c.transfer) r.position r.left r.tries rest) worst)
      (eqb (bit_and r.status waiting_bits) r.status)
      (note_fits r.note r.marks)))

pub command_words : (limit : ℕ) (c : Command) (r : Record) → fits_command limit c r ≡ true → r.left ≤ words_of c.transfer
unfolding fits_command
command_words limit c r e =
    leb-true _ _ (and_left (leb r.left (words_of c.transfer)) _ (and_right (leb 1 r.left) _ (and_right (not r.ended) _ e)))
