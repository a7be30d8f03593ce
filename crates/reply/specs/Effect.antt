-- What a reply does to the record and the incoming buffer, and the run along the walk to the next operation or the end (document 01,
-- "One operation, one reply", "Packing", "The calls").
use Rattle.std.specs.Prelude.{ℕ, ◌+◌, ◌*◌, ◌%◌, ◌^◌, Bool, true, false, ◌&&◌, List, [], ◌∷◌, eqb, if◌then◌else◌}
use Rattle.std.specs.Int.Bits.{bit_or}
use Rattle.camac.specs.Words.{qmode_of, words_of, direction_of, position_of}
use Rattle.camac.specs.declared.words.Command.{Command}
use Rattle.camac.specs.declared.words.Direction.{Direction}
use Rattle.camac.specs.declared.words.Direction.TheVariants.{Incoming, Outgoing, Neither}
use Rattle.qmodes.specs.declared.scan.ScanPosition.{ScanPosition}
use Rattle.packing.specs.Packing.{aligned_mark, width_of, stored}
use Rattle.packing.specs.declared.Marks.{Marks}
use Rattle.listfile.specs.declared.field.Instruction.TheVariants.{Camac, Jump, Literal, Halt}
use Rattle.walk.specs.Walk.{first_spot, Visit, no_marks, moved_by, moved}
use Rattle.reply.specs.Causes.{done_by, causes_of, greatest, only_nine}
use Rattle.qmodes.specs.Modes.{left_after, tries_after, position_after}
use Rattle.reply.specs.Status.{flags_of}
use Rattle.reply.specs.declared.replies.Reply.{Reply}
use Rattle.reply.specs.declared.replies.Reply.TheVariants.{Answered, Timeout, NotRecognised, NoSync}
use Rattle.reply.specs.declared.records.Note.{Note}
use Rattle.reply.specs.declared.records.Record.{Record}
use Rattle.walk.specs.declared.visits.Spot.{Spot}

-- "zeros before any"
abbrev pub no_note : Note
no_note = record { buffer = 0; offset = 0; size = 0 }

-- all zero, but for `ended`
abbrev pub zero_record : Bool → Record
zero_record isEnded = record {
  ended = isEnded;
  spot = first_spot;
  left = 0;
  tries = 0;
  position = record { station = 0; subaddress = 0 };
  marks = no_marks;
  operations = 0;
  status = 0;
  note = no_note;
}

-- the record with both buffers
pub record State : Type 0 where
  pub run : Record
  pub incoming : List ℕ
  pub outgoing : List ℕ

abbrev pub state_of : Record → List ℕ → List ℕ → State
state_of r incoming outgoing = record { run = r; incoming = incoming; outgoing = outgoing }

abbrev pub with_run : Record → State → State
with_run r s = record { run = r; incoming = s.incoming; outgoing = s.outgoing }

-- Along the walk ---------------------------------------------------------------------------------------------------------

-- "An ended record keeps the instruction that ended it, with words left, tries, N and A zero"; "bits 31–28 code", "7 ended"
unfoldable pub ended_at : Spot → ℕ → Record → Record
ended_at k code r = record {
  ended = true;
  spot = k;
  left = 0;
  tries = 0;
  position = record { station = 0; subaddress = 0 };
  marks = r.marks;
  operations = r.operations;
  status = bit_or r.status (code * 2 ^ 28 + 2 ^ 7);
  note = r.note;
}

-- the record that waits for the first reply of an instruction, with all its words left
unfoldable pub waits_for : Spot → Command → Record → Record
waits_for k c r = record {
  ended = false;
  spot = k;
  left = words_of c.transfer;
  tries = 0;
  position = position_of c.transfer;
  marks = r.marks;
  operations = r.operations;
  status = r.status;
  note = r.note;
}

abbrev pub with_marks : Marks → Record → Record
with_marks m r = record {
  ended = r.ended;
  spot = r.spot;
  left = r.left;
  tries = r.tries;
  position = r.position;
  marks = m;
  operations = r.operations;
  status = r.status;
  note = r.note;
}

-- "21h .. literal longword for the incoming buffer"; the note: "literals, inline and control don't touch it"
unfoldable pub put_literal : ℕ → State → State
put_literal v s = record {
  run = with_marks (moved_by Incoming true s.run.marks) s.run;
  incoming = stored true v s.run.marks.incoming s.incoming;
  outgoing = s.outgoing;
}

-- "runs to the first operation or the end"; "jumps, literals and halt need no reply. Halt ends with code 0." A walk ends with its halt
-- (law halts), so that nothing looks at the value for no visits.
unfoldable pub run_on : List Visit → State → State
run_on [] s = s
run_on (v ∷ vs) s = elim v.instruction [
  | Camac c ↦ with_run (waits_for v.spot c s.run) s
  | Jump target ↦ run_on vs s
  | Literal x ↦ run_on vs (put_literal x s)
  | Halt ↦ with_run (ended_at v.spot 0 s.run) s
]

-- One word ---------------------------------------------------------------------------------------------------------------

-- the longword that a read's word is stored as, of which a 16-bit word is the low half: "When a read's 24-bit word is stored, bit 31 becomes Q and
-- bit 30 X; bits 29–24 stay zero" (E9); "Literals and 16-bit words don't change" (E9). Kinds 1 to 3 "have every other byte zero".
abbrev pub longword_of : Reply → ℕ
longword_of (Answered a) = a.word % 2 ^ 24 + (if a.x then 2 ^ 30 else 0) + (if a.q then 2 ^ 31 else 0)
longword_of Timeout = 0
longword_of NotRecognised = 0
longword_of NoSync = 0

-- "The note is the buffer (0 incoming, 1 outgoing), offset and length of the last read or block or single write word moved";
-- "literals, inline and control don't touch it"
abbrev pub note_after : Direction → Bool → Record → Note
note_after Incoming wide r = record { buffer = 0; offset = aligned_mark wide r.marks.incoming; size = width_of wide }
note_after Outgoing wide r = record { buffer = 1; offset = aligned_mark wide r.marks.outgoing; size = width_of wide }
note_after Neither wide r = r.note

-- the record after one word moved
unfoldable pub moved_record : Command → Record → Record
moved_record c r = record {
  ended = r.ended;
  spot = r.spot;
  left = r.left;
  tries = r.tries;
  position = r.position;
  marks = moved c r.marks;
  operations = r.operations;
  status = r.status;
  note = note_after (direction_of c.transfer) c.wide r;
}

-- the incoming buffer after one word moved, by its mark before; to the outgoing one "nothing is written"
abbrev pub stored_by : Direction → Bool → ℕ → ℕ → List ℕ → List ℕ
stored_by Incoming wide word mark buffer = stored wide word mark buffer
stored_by Outgoing wide word mark buffer = buffer
stored_by Neither wide word mark buffer = buffer

unfoldable pub moved_bytes : Command → ℕ → ℕ → List ℕ → List ℕ
moved_bytes c word mark buffer = stored_by (direction_of c.transfer) c.wide word mark buffer

unfoldable pub move_word : Command → ℕ → State → State
move_word c word s = record {
  run = moved_record c s.run;
  incoming = moved_bytes c word s.run.marks.incoming s.incoming;
  outgoing = s.outgoing;
}

-- One reply --------------------------------------------------------------------------------------------------------------

-- "An operation counts when its reply is taken"; "Flags gather over all answers"
unfoldable pub counted : ℕ → Command → Reply → Record → Record
counted limit c reply r = record {
  ended = r.ended;
  spot = r.spot;
  left = r.left;
  tries = r.tries;
  position = r.position;
  marks = r.marks;
  operations = r.operations + 1;
  status = bit_or r.status (flags_of limit c r reply);
  note = r.note;
}

-- "A word not done is tried again with the same data": the record that waits on at the same instruction
unfoldable pub waiting : ℕ → ℕ → ScanPosition → Record → Record
waiting left tries p r = record {
  ended = false;
  spot = r.spot;
  left = left;
  tries = tries;
  position = p;
  marks = r.marks;
  operations = r.operations;
  status = r.status;
  note = r.note;
}

-- no cause: the word, if done, is moved; "After word n the next instruction follows", and after a block that is closed:
-- "The next instruction continues at the marks reached, padding from there" (E8)
unfoldable pub go_on : List Visit → Command → Bool → ℕ → State → State
go_on rest c is_done word s =
    let s₁ : State = if is_done then move_word c word s else s in
    let left : ℕ = left_after (qmode_of c.transfer) is_done s.run.left in
    if eqb left 0 then run_on rest s₁
    else with_run (waiting left (tries_after (qmode_of c.transfer) is_done s.run.tries) (position_after (qmode_of c.transfer) is_done s.run.position) s₁.run) s₁

-- "A reply that ends the run so moves no word", "except that a word done at the scan's last position, with 9 as the only cause, is moved
-- first". "The greatest code wins."
unfoldable pub by_causes : List ℕ → List Visit → Command → Bool → ℕ → State → State
by_causes [] rest c is_done word s = go_on rest c is_done word s
by_causes (code ∷ codes) rest c is_done word s =
    let s₁ : State = if is_done && only_nine (code ∷ codes) then move_word c word s else s in
    with_run (ended_at s.run.spot (greatest (code ∷ codes)) s₁.run) s₁

-- a reply taken at an instruction, with the walk after it
unfoldable pub take_reply : ℕ → List Visit → Command → Reply → State → State
take_reply limit rest c reply s =
    by_causes (causes_of limit c s.run reply) rest c (done_by (qmode_of c.transfer) reply) (longword_of reply)
    (with_run (counted limit c reply s.run) s)
