-- The answers of one instruction as code passes them: words and waits counted, with what an instruction decides for all of them. Nothing here
-- is a rule of document 01: the laws of proofs/AnswerTurn join these definitions to those that are.
use Rattle.std.specs.Prelude.{ℕ, ◌+◌, ◌-◌, ◌*◌, ◌/◌, ◌%◌, ◌^◌, ◌≤◌, ◌<◌, ◌≡◌, Bool, true, false, List, eqb, length}
use Rattle.std.specs.Int.Bits.{bit_and, bit_or}
use Rattle.camac.specs.Words.{qmode_of, direction_of, command_in}
use Rattle.qmodes.specs.Modes.{tries_after}
use Rattle.qmodes.specs.model.Answers.{word_flags, wait_flags, can_wait, words_ahead, place_after_words, place_after_wait}
use Rattle.qmodes.specs.declared.modes.QMode.TheVariants.{Scan}
use Rattle.qmodes.specs.declared.scan.ScanPosition.{ScanPosition}
use Rattle.camac.specs.declared.words.Command.{Command}
use Rattle.camac.specs.declared.words.Direction.{Direction}
use Rattle.camac.specs.declared.words.Direction.TheVariants.{Incoming, Outgoing, Neither}
use Rattle.packing.specs.Packing.{width_of, mark_after_words}
use Rattle.packing.specs.declared.Marks.{Marks}
use Rattle.packing.specs.model.Marks.{EvenMarks}
use Rattle.walk.specs.declared.visits.Spot.{Spot}
use Rattle.reply.specs.Replies.{replies_in, all_formed}
use Rattle.reply.specs.declared.records.Note.{Note}
use Rattle.reply.specs.declared.records.Record.{Record}
use Rattle.row.specs.model.Words.{flags_at, WordsAt, words_stored, gathered_bits}
use Rattle.answers.specs.declared.Rules.{Rules}
use Rattle.answers.specs.declared.Stay.{Stay}

-- what an instruction decides for its answers
unfoldable pub rules_of : Command → Rules
rules_of c = record {
  q = qmode_of c.transfer;
  direction = direction_of c.transfer;
  wide = c.wide;
  word = word_flags (qmode_of c.transfer) c.ad;
  ad = c.ad;
}

-- the same by its first longword; the second has the number of words alone
unfoldable pub rules_in : ℕ → Rules
rules_in first = rules_of (command_in first 0)

-- Where a run stands -----------------------------------------------------------------------------------------------------

-- a position as one number, and the position that a number is
abbrev pub place_of : ScanPosition → ℕ
place_of p = p.station * 16 + p.subaddress

abbrev pub position_at : ℕ → ScanPosition
position_at n = record { station = n / 16; subaddress = n % 16 }

-- the record that a stay at a spot stands for: r is the record before reply number `from` of the row
unfoldable pub record_at : Record → List ℕ → ℕ → Spot → Stay → Record
record_at r row from k s = record {
  ended = false;
  spot = k;
  left = s.left;
  tries = s.tries;
  position = position_at s.position;
  marks = s.marks;
  operations = r.operations + (s.taken - from);
  status = bit_or r.status (gathered_bits row from (s.taken - from));
  note = s.note;
}

-- Words and waits --------------------------------------------------------------------------------------------------------

-- the marks behind some words
abbrev pub marks_behind : Direction → Bool → ℕ → Marks → Marks
marks_behind Incoming wide k m = record { incoming = mark_after_words wide k m.incoming; outgoing = m.outgoing }
marks_behind Outgoing wide k m = record { incoming = m.incoming; outgoing = mark_after_words wide k m.outgoing }
marks_behind Neither wide k m = m

-- the note of the last of some words, by the marks behind it
abbrev pub note_behind : Direction → Bool → Marks → Note → Note
note_behind Incoming wide m n = record { buffer = 0; offset = m.incoming - width_of wide; size = width_of wide }
note_behind Outgoing wide m n = record { buffer = 1; offset = m.outgoing - width_of wide; size = width_of wide }
note_behind Neither wide m n = n

-- a word lies below the mark that moved
abbrev pub NoteRoom : Direction → Bool → Marks → Type 0
NoteRoom Incoming wide m = width_of wide ≤ m.incoming
NoteRoom Outgoing wide m = width_of wide ≤ m.outgoing
NoteRoom Neither wide m = Unit {0}

-- behind k words
unfoldable pub after_words : Rules → ℕ → Stay → Stay
after_words rules k s = record {
  taken = s.taken + k;
  left = s.left - k;
  tries = 0;
  position = place_after_words rules.q s.position k;
  marks = marks_behind rules.direction rules.wide k s.marks;
  note = note_behind rules.direction rules.wide (marks_behind rules.direction rules.wide k s.marks) s.note;
}

-- the incoming buffer behind them
abbrev pub bytes_by : Direction → Bool → List ℕ → ℕ → ℕ → ℕ → List ℕ → List ℕ
bytes_by Incoming wide row from mark k b = words_stored wide row from mark k b
bytes_by Outgoing wide row from mark k b = b
bytes_by Neither wide row from mark k b = b

unfoldable pub bytes_after : Rules → List ℕ → ℕ → Stay → List ℕ → List ℕ
bytes_after rules row k s b = bytes_by rules.direction rules.wide row s.taken s.marks.incoming k b

-- behind an answer that is no word
abbrev pub waited_with : ℕ → ℕ → Stay → Stay
waited_with tries position s = record {
  taken = s.taken + 1;
  left = s.left;
  tries = tries;
  position = position;
  marks = s.marks;
  note = s.note;
}

unfoldable pub after_wait : Rules → Stay → Stay
after_wait rules s = waited_with (tries_after rules.q false s.tries) (place_after_wait rules.q s.position) s

-- k words from a stay on, none of them at or behind the end of the answers
pub record Words (rules : Rules) (row : List ℕ) (answers : ℕ) (s : Stay) (k : ℕ) : Type 0 where
  pub some : 1 ≤ k
  pub ahead : k ≤ words_ahead rules.q s.position s.left
  pub answered : s.taken + k ≤ answers
  pub are : WordsAt rules.word row s.taken k

-- some words taken: the stay and the buffer behind them
pub record Takes (rules : Rules) (row : List ℕ) (answers : ℕ) (s : Stay) (b : List ℕ) (s' : Stay) (b' : List ℕ) : Type 0 where
  pub count : ℕ
  pub words : Words rules row answers s count
  pub behind : s' ≡ after_words rules count s
  pub bytes : b' ≡ bytes_after rules row count s b

-- an answer that is no word and no cause
pub record Waits (rules : Rules) (limit : ℕ) (row : List ℕ) (answers : ℕ) (s : Stay) : Type 0 where
  pub some : 1 ≤ s.left
  pub answered : s.taken + 1 ≤ answers
  pub no_word : eqb (bit_and (flags_at row s.taken) rules.word) (rules.word % 4) ≡ false
  pub judged : eqb (bit_and (flags_at row s.taken) (wait_flags rules.q rules.ad)) (wait_flags rules.q rules.ad % 4) ≡ true
  pub tried : can_wait rules.q limit s.tries s.position ≡ true

-- words and waits from one stay and buffer to another
pub data Passed (rules : Rules) (limit : ℕ) (row : List ℕ) (answers : ℕ) (s : Stay) (b : List ℕ) : Stay → List ℕ → Type 0 where
  none : Passed rules limit row answers s b s b
  words : {t : Stay} {x : List ℕ} (k : ℕ) → Passed rules limit row answers s b t x → Words rules row answers t k
      → Passed rules limit row answers s b (after_words rules k t) (bytes_after rules row k t x)
  wait : {t : Stay} {x : List ℕ} → Passed rules limit row answers s b t x → Waits rules limit row answers t
      → Passed rules limit row answers s b (after_wait rules t) x

-- Arithmetic -------------------------------------------------------------------------------------------------------------

-- what a stay and its incoming buffer have: the numbers are an admitted list's, the marks are even, and the words left have room
pub record Roomy (rules : Rules) (row : List ℕ) (answers : ℕ) (s : Stay) (b : List ℕ) : Type 0 where
  pub row_formed : all_formed (replies_in row) ≡ true
  pub within : answers * 8 ≤ length row
  pub taken : s.taken * 8 ≤ length row
  pub left : s.left ≤ 65536
  pub tries : s.tries < 65536
  pub position : s.position < 65536
  pub scan : 1 ≤ s.left → rules.q ≡ Scan → s.position ≤ 0x17F
  pub incoming : (marks_behind rules.direction rules.wide s.left s.marks).incoming ≤ length b
  pub small : (marks_behind rules.direction rules.wide s.left s.marks).incoming ≤ 2 ^ 60
  pub outgoing : (marks_behind rules.direction rules.wide s.left s.marks).outgoing ≤ 2 ^ 60
  pub even : EvenMarks s.marks
