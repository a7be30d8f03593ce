-- What a change request did to fit (document 02, E8): a record that fitted before it fits after it. The statement is Unharmed, last on this page; the
-- proof is proofs/FitsStill.
use Rattle.std.specs.Prelude.{ℕ, ◌+◌, ◌-◌, ◌≡◌, Bool, true, false, ◌&&◌, not, List, [], ◌∷◌, leb, eqb}
use Rattle.std.specs.Int.Bits.{bit_and}
use Rattle.base.specs.Checks.{all_of}
use Rattle.camac.specs.Words.{qmode_of, words_of, position_of}
use Rattle.camac.specs.declared.words.Command.{Command}
use Rattle.packing.specs.declared.Marks.{Marks}
use Rattle.listfile.specs.declared.field.Instruction.TheVariants.{Camac, Jump, Literal, Halt}
use Rattle.walk.specs.Walk.{Visit, up_to, on_from, no_marks, moved_words, marks_over}
use Rattle.walk.specs.Worst.{worst_over}
use Rattle.walk.specs.Admission.{Plan}
use Rattle.reply.specs.Status.{waiting_bits}
use Rattle.reply.specs.declared.records.Record.{Record}
use Rattle.qmodes.specs.Modes.{tries_fit, position_fits, most_left}
use Rattle.calls.specs.Fit.{note_fits, fits}

-- Document 01's fit, before E8 ---------------------------------------------------------------------------------------------

-- "both marks are those of the walk with the moved words" (document 01)
unfoldable pub marks_were : Command → Marks → Record → Bool
marks_were c m r =
    eqb r.marks.incoming (moved_words (words_of c.transfer - r.left) c m).incoming
    && eqb r.marks.outgoing (moved_words (words_of c.transfer - r.left) c m).outgoing

-- the clauses of Fit:fits_at, with this rule of the marks
unfoldable pub fit_at : ℕ → ℕ → Command → Marks → ℕ → Record → Bool
fit_at limit worst c m rest r = all_of (
    not r.ended
    ∷ leb 1 r.left
    ∷ leb r.left (words_of c.transfer)
    ∷ tries_fit limit (qmode_of c.transfer) r.tries
    ∷ position_fits (qmode_of c.transfer) (position_of c.transfer) r.position
    ∷ marks_were c m r
    ∷ leb (r.operations + most_left limit (qmode_of c.transfer) r.position r.left r.tries rest) worst
    ∷ eqb (bit_and r.status waiting_bits) r.status
    ∷ note_fits r.note r.marks
    ∷ [])

unfoldable pub fit_from : ℕ → ℕ → Marks → List Visit → Record → Bool
fit_from limit worst m [] r = false
fit_from limit worst m (v ∷ rest) r = elim v.instruction [
  | Camac c ↦ fit_at limit worst c m (worst_over limit rest) r
  | Jump target ↦ false
  | Literal x ↦ false
  | Halt ↦ false
]

unfoldable pub fit : Plan → Record → Bool
fit p r =
    fit_from p.limit (worst_over p.limit p.visits) (marks_over (up_to r.spot p.visits) no_marks)
    (on_from r.spot p.visits) r

-- What is taken over -------------------------------------------------------------------------------------------------------

-- "Records saved under E7 before the change load unharmed and finish by this rule": one that fits by document 01's rule of the marks fits by E8's
abbrev pub Unharmed : Type 0
Unharmed = (p : Plan) (r : Record) → fit p r ≡ true → fits p r ≡ true
