-- One reply at one operation without the walk behind its last word, one visit of the walk, and what code answers by its own types.
-- Nothing here is a rule of document 01: the laws TakeHere and Onward join these definitions to those that are.
use Rattle.std.specs.Prelude.{ℕ, ◌^◌, ◌≤◌, ◌<◌, Bool, true, false, ◌&&◌, List, eqb, length, if◌then◌else◌}
use Rattle.camac.specs.Words.{qmode_of}
use Rattle.camac.specs.declared.words.Command.{Command}
use Rattle.camac.specs.declared.words.Direction.TheVariants.{Incoming}
use Rattle.packing.specs.Packing.{mark_after, stored}
use Rattle.listfile.specs.declared.field.Instruction.{Instruction}
use Rattle.listfile.specs.declared.field.Instruction.TheVariants.{Camac, Jump, Literal, Halt}
use Rattle.walk.specs.Walk.{spot_after, jump_to, Visit, moved_by, moved}
use Rattle.reply.specs.Causes.{done_by, causes_of, code_of, only_nine}
use Rattle.reply.specs.Effect.{State, ended_at, waits_for, with_marks, run_on, longword_of, moved_record, moved_bytes, counted, waiting, state_of}
use Rattle.qmodes.specs.Modes.{left_after, tries_after, position_after}
use Rattle.reply.specs.declared.replies.Reply.{Reply}
use Rattle.reply.specs.declared.records.Record.{Record}
use Rattle.take.specs.declared.Taken.{Taken}
use Rattle.take.specs.declared.Taken.TheVariants.{Same, Through, Ended}
use Rattle.take.specs.declared.Advance.{Advance}
use Rattle.take.specs.declared.Advance.TheVariants.{On, At}
use Rattle.walk.specs.declared.visits.Spot.{Spot}

-- One reply at one operation ---------------------------------------------------------------------------------------------

-- what a waiting record and its incoming buffer have that arithmetic needs
pub record Ready (c : Command) (r : Record) (buffer : List ℕ) : Type 0 where
  pub some : 1 ≤ r.left
  pub tried : r.tries < 2 ^ 16
  pub operations : r.operations < 2 ^ 63
  pub room : (moved c r.marks).incoming ≤ length buffer
  pub outgoing : r.marks.outgoing < 2 ^ 63

-- the incoming mark after one word, by the mark alone
unfoldable pub incoming_after : Command → ℕ → ℕ
incoming_after c mark = (moved c (record { incoming = mark; outgoing = 0 })).incoming

-- the record that waits on at the same operation; `before` is the record before the reply, r the counted one
abbrev pub onward : Command → Bool → ℕ → Record → Record → Record
onward c is_done left before r =
    waiting left
    (tries_after (qmode_of c.transfer) is_done before.tries)
    (position_after (qmode_of c.transfer) is_done before.position)
    r

-- the record and the incoming buffer after one word, where it moves
abbrev pub moved_if : Bool → Command → Record → Record
moved_if true c r = moved_record c r
moved_if false c r = r

-- no cause: the same operation waits on, or it is through; r is the record after the reply
unfoldable pub on_run : Command → Bool → Record → Record → Taken
on_run c is_done before r =
    let left : ℕ = left_after (qmode_of c.transfer) is_done before.left in if eqb left 0 then Through r else Same (onward c is_done left before r)

abbrev pub bytes_if : Bool → Command → ℕ → ℕ → List ℕ → List ℕ
bytes_if true c word mark buffer = moved_bytes c word mark buffer
bytes_if false c word mark buffer = buffer

-- whether a reply that ends the run moves its word first: a done word, with 9 as the only cause
unfoldable pub moves_at_end : ℕ → Command → Reply → Record → Bool
moves_at_end limit c reply r = done_by (qmode_of c.transfer) reply && only_nine (causes_of limit c r reply)

-- whether a reply moves its word
unfoldable pub moves_word : ℕ → Command → Reply → Record → Bool
moves_word limit c reply r =
    if eqb (code_of limit c r reply) 0 then done_by (qmode_of c.transfer) reply else moves_at_end limit c reply r

-- the record after a reply
unfoldable pub here_run : ℕ → Command → Reply → Record → Taken
here_run limit c reply r =
    if eqb (code_of limit c r reply) 0
    then on_run c (done_by (qmode_of c.transfer) reply) r (moved_if (done_by (qmode_of c.transfer) reply) c (counted limit c reply r))
    else Ended (ended_at r.spot (code_of limit c r reply) (moved_if (moves_at_end limit c reply r) c (counted limit c reply r)))

-- the incoming buffer after it
unfoldable pub here_buffer : ℕ → Command → Reply → Record → List ℕ → List ℕ
here_buffer limit c reply r buffer = bytes_if (moves_word limit c reply r) c (longword_of reply) r.marks.incoming buffer

-- the walk behind the last word
abbrev pub resumed : List Visit → Taken → List ℕ → List ℕ → State
resumed rest (Same r) incoming outgoing = state_of r incoming outgoing
resumed rest (Through r) incoming outgoing = run_on rest (state_of r incoming outgoing)
resumed rest (Ended r) incoming outgoing = state_of r incoming outgoing

-- One visit --------------------------------------------------------------------------------------------------------------

-- a literal has its room
abbrev pub RoomFor : Instruction → Record → List ℕ → Type 0
RoomFor (Camac c) r buffer = Unit {0}
RoomFor (Jump target) r buffer = Unit {0}
RoomFor (Literal v) r buffer = mark_after true r.marks.incoming ≤ length buffer
RoomFor Halt r buffer = Unit {0}

-- where the run stands after an instruction: on at another, or waiting or ended here
unfoldable pub advance_run : Instruction → Spot → Record → Advance
advance_run (Camac c) k r = At (waits_for k c r)
advance_run (Jump target) k r = On (jump_to target k) r
advance_run (Literal v) k r = On (spot_after k) (with_marks (moved_by Incoming true r.marks) r)
advance_run Halt k r = At (ended_at k 0 r)

unfoldable pub advance_buffer : Instruction → Record → List ℕ → List ℕ
advance_buffer (Camac c) r buffer = buffer
advance_buffer (Jump target) r buffer = buffer
advance_buffer (Literal v) r buffer = stored true v r.marks.incoming buffer
advance_buffer Halt r buffer = buffer
