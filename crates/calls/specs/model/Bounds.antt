-- Fit as code tests it: bounds that an admitted list sets to the numbers that fit is judged by, and the tests in two parts. Nothing here
-- is a rule of document 01: the law fit-parts joins the two parts to the definition that is.
use Rattle.std.specs.Prelude.{ℕ, ◌+◌, ◌^◌, ◌≤◌, ◌<◌, Bool, ◌&&◌, not, [], ◌∷◌, leb, eqb}
use Rattle.std.specs.Int.Bits.{bit_and}
use Rattle.base.specs.Checks.{all_of}
use Rattle.camac.specs.Words.{qmode_of, words_of, position_of}
use Rattle.qmodes.specs.Modes.{tries_fit, position_fits, most_left}
use Rattle.camac.specs.declared.words.Command.{Command}
use Rattle.packing.specs.declared.Marks.{Marks}
use Rattle.packing.specs.model.Marks.{MarksTo}
use Rattle.reply.specs.Status.{waiting_bits}
use Rattle.reply.specs.declared.records.Record.{Record}
use Rattle.calls.specs.Fit.{marks_fit, note_fits}

-- what an admitted list bounds: R, the words of an instruction, the worst count after it, and the marks before it, which are even
abbrev pub Bounded : ℕ → Command → Marks → ℕ → Type 0
Bounded limit c m rest =
    (limit < 2 ^ 16) × ((words_of c.transfer ≤ 2 ^ 16) × ((rest ≤ 2 ^ 60) × MarksTo (2 ^ 60) m))

-- the tests of a record by itself, at an instruction
unfoldable pub fits_command : ℕ → Command → Record → Bool
fits_command limit c r = all_of (
    not r.ended
    ∷ leb 1 r.left
    ∷ leb r.left (words_of c.transfer)
    ∷ tries_fit limit (qmode_of c.transfer) r.tries
    ∷ position_fits (qmode_of c.transfer) (position_of c.transfer) r.position
    ∷ eqb (bit_and r.status waiting_bits) r.status
    ∷ note_fits r.note r.marks
    ∷ [])

-- the tests of its marks and operations, by the walk
unfoldable pub fits_walk : ℕ → ℕ → Command → Marks → ℕ → Record → Bool
fits_walk limit worst c m rest r =
    marks_fit c m r
    && leb (r.operations + most_left limit (qmode_of c.transfer) r.position r.left r.tries rest) worst
