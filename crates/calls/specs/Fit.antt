-- A record fits the list (document 01, "The calls", its paragraph on fit; refusal 23).
use Rattle.std.specs.Prelude.{ℕ, ◌+◌, ◌-◌, ◌%◌, Bool, false, ◌&&◌, ◌||◌, not, List, [], ◌∷◌, leb, eqb}
use Rattle.std.specs.Int.Bits.{bit_and}
use Rattle.base.specs.Checks.{all_of}
use Rattle.camac.specs.Words.{qmode_of, words_of, position_of}
use Rattle.camac.specs.declared.words.Command.{Command}
use Rattle.packing.specs.declared.Marks.{Marks}
use Rattle.listfile.specs.declared.field.Instruction.TheVariants.{Camac, Jump, Literal, Halt}
use Rattle.walk.specs.Walk.{Visit, up_to, on_from, no_marks, moved_words, marks_over}
use Rattle.walk.specs.Worst.{worst_over}
use Rattle.walk.specs.Admission.{Plan}
use Rattle.reply.specs.Status.{waiting_bits}
use Rattle.reply.specs.declared.records.Note.{Note}
use Rattle.reply.specs.declared.records.Record.{Record}
use Rattle.qmodes.specs.Modes.{tries_fit, position_fits, most_left}

-- "each mark need only be even and no greater than the old one at its place" (E8)
abbrev pub mark_fits : ℕ → ℕ → Bool
mark_fits mark old = eqb (mark % 2) 0 && leb mark old

-- the old ones: the marks "of the walk with the moved words"
unfoldable pub marks_fit : Command → Marks → Record → Bool
marks_fit c m r =
    let old : Marks = moved_words (words_of c.transfer - r.left) c m in
    mark_fits r.marks.incoming old.incoming && mark_fits r.marks.outgoing old.outgoing

-- "the note is zeros, or two or four bytes of its buffer below that buffer's mark"
unfoldable pub note_fits : Note → Marks → Bool
note_fits note m =
    all_of (eqb note.buffer 0 ∷ eqb note.offset 0 ∷ eqb note.size 0 ∷ [])
    || ((eqb note.size 2 || eqb note.size 4)
    && ((eqb note.buffer 0 && leb (note.offset + note.size) m.incoming)
    || (eqb note.buffer 1 && leb (note.offset + note.size) m.outgoing)))

-- at a CAMAC instruction of the walk, with the marks before it, W, and the sum over the walk after it
unfoldable pub fits_at : ℕ → ℕ → Command → Marks → ℕ → Record → Bool
fits_at limit worst c m rest r = all_of (
    -- "it hasn't ended"
    not r.ended
    -- "words left is 1 to n"
    ∷ leb 1 r.left
    ∷ leb r.left (words_of c.transfer)
    ∷ tries_fit limit (qmode_of c.transfer) r.tries
    ∷ position_fits (qmode_of c.transfer) (position_of c.transfer) r.position
    ∷ marks_fit c m r
    -- "operations plus the most still possible is at most W"
    ∷ leb (r.operations + most_left limit (qmode_of c.transfer) r.position r.left r.tries rest) worst
    -- "status has only bits 16–18, 20, 21, 23, 26"
    ∷ eqb (bit_and r.status waiting_bits) r.status
    ∷ note_fits r.note r.marks
    ∷ [])

-- "its instruction is a CAMAC one on the walk": the first of the visits from the record's instruction on
unfoldable pub fits_from : ℕ → ℕ → Marks → List Visit → Record → Bool
fits_from limit worst m [] r = false
fits_from limit worst m (v ∷ rest) r = elim v.instruction [
  | Camac c ↦ fits_at limit worst c m (worst_over limit rest) r
  | Jump target ↦ false
  | Literal x ↦ false
  | Halt ↦ false
]

-- "A record fits the list"
unfoldable pub fits : Plan → Record → Bool
fits p r =
    fits_from p.limit (worst_over p.limit p.visits) (marks_over (up_to r.spot p.visits) no_marks)
    (on_from r.spot p.visits) r
