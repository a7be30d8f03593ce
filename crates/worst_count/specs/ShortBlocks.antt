-- The packing after a short block (document 02, E8): after a block that
-- is closed every word lies where it would lie had the block been declared that short. The statement is ShortBlocks, last on this page; the
-- proof is proofs/ShortBlocks.
use Rattle.std.specs.Prelude.{ℕ, zero, suc, ◌-◌, ◌≡◌, true, false, List, [], ◌∷◌, ◌++◌, length, if◌then◌else◌}
use Rattle.base.specs.Bytes.{Bytes}
use Rattle.camac.specs.Words.{words_of}
use Rattle.camac.specs.declared.words.Transfer.{Transfer}
use Rattle.camac.specs.declared.words.Transfer.TheVariants.{Single, Block, Enhanced, Inline}
use Rattle.camac.specs.declared.words.Command.{Command}
use Rattle.listfile.specs.declared.field.Instruction.TheVariants.{Camac}
use Rattle.walk.specs.Walk.{Visit}
use Rattle.walk.specs.Admission.{Plan, ready, prepare}
use Rattle.reply.specs.Causes.{code_of, closed_by}
use Rattle.reply.specs.Effect.{State}
use Rattle.reply.specs.declared.records.Record.{Record}
use Rattle.reply.specs.declared.replies.Reply.{Reply}
use Rattle.calls.specs.Calls.{begun, take_at}

-- a run over replies, to its end
unfoldable pub along : Plan → List Reply → State → State
along p [] s = s
along p (x ∷ xs) s = if s.run.ended then s else along p xs (take_at p x s)

-- a block declared with k words
abbrev pub asking : ℕ → Transfer → Transfer
asking k (Single q a) = Single q a
asking k (Block q a n) = Block q a k
asking k (Enhanced q a n) = Enhanced q a k
asking k (Inline q a word) = Inline q a word

-- its visit; a block of no words is left out
abbrev pub short_visit : ℕ → Visit → Command → List Visit
short_visit zero v c = []
short_visit (suc k) v c =
    record { spot = v.spot; place = v.place; instruction = Camac (record { transfer = asking (suc k) c.transfer; wide = c.wide; ad = c.ad }) } ∷ []

-- all but operations and status, which the reply that closes the block adds to
abbrev pub bare : State → State
bare s = record {
  run = record {
    ended = s.run.ended;
    spot = s.run.spot;
    left = s.run.left;
    tries = s.run.tries;
    position = s.run.position;
    marks = s.run.marks;
    operations = 0;
    status = 0;
    note = s.run.note;
  };
  incoming = s.incoming;
  outgoing = s.outgoing;
}

-- Blocks that are closed ---------------------------------------------------------------------------------------------------

-- A block that a reply of a run closes: the reply among the others, the block's visit among the others, and the record that waits there
pub record ShortBlock (p : Plan) (incoming outgoing : List ℕ) (replies : List Reply) : Type 0 where
  pub earlier : List Reply
  pub closing : Reply
  pub later : List Reply
  pub cut : replies ≡ earlier ++ (closing ∷ later)
  pub before : List Visit
  pub visit : Visit
  pub after : List Visit
  pub split : p.visits ≡ before ++ (visit ∷ after)
  pub command : Command
  pub camac : visit.instruction ≡ Camac command
  pub waiting : Record
  pub comes : (along p earlier (begun p incoming outgoing)).run ≡ waiting
  pub going : waiting.ended ≡ false
  pub here : waiting.spot ≡ visit.spot
  pub no_cause : code_of p.limit command waiting closing ≡ 0
  pub closes : closed_by command.transfer closing ≡ true

-- the walk with that block declared with just the words that were moved, n less the words left
abbrev pub declared : {p : Plan} {incoming outgoing : List ℕ} {replies : List Reply} → ShortBlock p incoming outgoing replies → Plan
declared {p} b = record {
  limit = p.limit;
  visits = b.before ++ (short_visit (words_of b.command.transfer - b.waiting.left) b.visit b.command ++ b.after);
}

-- a walk and replies with some of the closed blocks declared so, one after the other, and without the replies that closed them
pub data Shortened (incoming outgoing : List ℕ) : Plan → List Reply → Plan → List Reply → Type 0 where
  none_more : {p : Plan} {xs : List Reply} → Shortened incoming outgoing p xs p xs
  one_more : {p q : Plan} {xs ys : List Reply} (b : ShortBlock p incoming outgoing xs)
      → Shortened incoming outgoing (declared b) (b.earlier ++ b.later) q ys → Shortened incoming outgoing p xs q ys

-- "The next instruction continues at the marks reached, padding from there": every run over the walk of an admitted list leaves the bytes, marks and
-- note of the run over the walk whose closed blocks ask for just the words that were moved
abbrev pub ShortBlocks : Type 0
ShortBlocks =
    (list incoming outgoing : List ℕ) (p q : Plan) (xs ys : List Reply) → Bytes list → prepare list (length incoming) (length outgoing) ≡ ready p
    → Shortened incoming outgoing p xs q ys → bare (along p xs (begun p incoming outgoing)) ≡ bare (along q ys (begun q incoming outgoing))
