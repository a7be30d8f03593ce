-- What a run reads of a CAMAC instruction: its Q-mode, whether it is a block, words wanted, direction, N and A, word size, AD (document 02,
-- E1). Only the operation wanted, calls/specs/Calls:operation_of, reads more:
-- crate, function, the data of an inline write and whether it is enhanced. The statement is Kinds, last on this page; the proof is proofs/Alike.
use Rattle.std.specs.Prelude.{ℕ, ◌≡◌, Bool, true, false, List, ltb, if◌then◌else◌}
use Rattle.qmodes.specs.declared.modes.QMode.{QMode}
use Rattle.qmodes.specs.declared.modes.QMode.TheVariants.{Ignore}
use Rattle.camac.specs.Words.{is_control, qmode_of, is_block, words_of, direction_of, position_of, is_sequencer_at}
use Rattle.camac.specs.declared.words.Address.{Address}
use Rattle.camac.specs.declared.words.Transfer.{Transfer}
use Rattle.camac.specs.declared.words.Transfer.TheVariants.{Block, Enhanced}
use Rattle.camac.specs.declared.words.Command.{Command}
use Rattle.packing.specs.declared.Marks.{Marks}
use Rattle.listfile.specs.declared.field.Instruction.TheVariants.{Camac}
use Rattle.walk.specs.Walk.{Visit, moved_words, marks_after}
use Rattle.walk.specs.Worst.{worst_of}
use Rattle.walk.specs.declared.visits.Spot.{Spot}
use Rattle.reply.specs.Causes.{causes_of, code_of}
use Rattle.reply.specs.Status.{flags_of}
use Rattle.reply.specs.Effect.{State, waits_for, take_reply}
use Rattle.reply.specs.declared.records.Record.{Record}
use Rattle.reply.specs.declared.replies.Reply.{Reply}
use Rattle.calls.specs.Fit.{fits_at}
use Rattle.worst_count.specs.Slowest.{slowest_reply}

-- two instructions with the same Q-mode, words wanted, direction, N and A, word size and AD, both blocks or neither
pub record Alike (c d : Command) : Type 0 where
  pub qmode : qmode_of c.transfer ≡ qmode_of d.transfer
  pub block : is_block c.transfer ≡ is_block d.transfer
  pub words : words_of c.transfer ≡ words_of d.transfer
  pub direction : direction_of c.transfer ≡ direction_of d.transfer
  pub position : position_of c.transfer ≡ position_of d.transfer
  pub wide : c.wide ≡ d.wide
  pub ad : c.ad ≡ d.ad

-- two instructions of which every definition on worst count, marks, fit and replies says the same
pub record SameRun (c d : Command) : Type 0 where
  -- the share of W
  pub worst : (limit : ℕ) → worst_of limit (Camac c) ≡ worst_of limit (Camac d)
  -- the marks after some of its words, and after all
  pub marks : (k : ℕ) (m : Marks) → moved_words k c m ≡ moved_words k d m
  pub marks_after_lem : (m : Marks) → marks_after (Camac c) m ≡ marks_after (Camac d) m
  -- the record that waits for its first reply
  pub waits : (s : Spot) (r : Record) → waits_for s c r ≡ waits_for s d r
  -- whether a record fits at it
  pub fit : (limit worst : ℕ) (m : Marks) (rest : ℕ) (r : Record) → fits_at limit worst c m rest r ≡ fits_at limit worst d m rest r
  -- the causes of a reply, and the code
  pub causes : (limit : ℕ) (r : Record) (reply : Reply) → causes_of limit c r reply ≡ causes_of limit d r reply
  pub code : (limit : ℕ) (r : Record) (reply : Reply) → code_of limit c r reply ≡ code_of limit d r reply
  -- the status bits that a reply sets
  pub status : (limit : ℕ) (r : Record) (reply : Reply) → flags_of limit c r reply ≡ flags_of limit d r reply
  -- the record and the buffers after a reply
  pub effect : (limit : ℕ) (rest : List Visit) (reply : Reply) (s : State) → take_reply limit rest c reply s ≡ take_reply limit rest d reply s
  -- the slowest reply
  pub slowest : (limit : ℕ) (r : Record) → slowest_reply limit (qmode_of c.transfer) r ≡ slowest_reply limit (qmode_of d.transfer) r

-- Two kinds ------------------------------------------------------------------------------------------------------------------

-- an instruction by its transfer, word size and AD
abbrev pub command_of : Transfer → Bool → Bool → Command
command_of t wide ad = record { transfer = t; wide = wide; ad = ad }

-- the address at which a standard block does what the list sequencer does: F 0 reads, F 16 writes
abbrev pub plain_address : Address → Address
plain_address a = record {
  crate_number = a.crate_number;
  station = a.station;
  subaddress = a.subaddress;
  function = if ltb a.subaddress 2 then 0 else 16;
}

-- "Counts, packing and endings are those of standard blocks, proved over both kinds together": instructions that are alike run the same; an enhanced
-- block is alike to the standard block with its Q-mode, address and words, and the list sequencer to the standard block in ignore that reads or
-- writes
pub record Kinds : Type 0 where
  pub same : (c d : Command) → Alike c d → SameRun c d
  pub enhanced : (q : QMode) (a : Address) (n : ℕ) (wide ad : Bool) → is_control a.function ≡ false
      → Alike (command_of (Enhanced q a n) wide ad) (command_of (Block q a n) wide ad)
  pub sequencer : (a : Address) (n : ℕ) (wide ad : Bool) → is_sequencer_at a ≡ true
      → Alike (command_of (Enhanced Ignore a n) wide ad) (command_of (Block Ignore (plain_address a) n) wide ad)
