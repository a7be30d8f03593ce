-- The whole run over a row of replies, as code makes it. Nothing here is a rule of document 01: the law StepsAreTakes joins `takes_over` to the
-- definition of the whole run, and RunTurn joins words and waits to it.
use Rattle.std.specs.Prelude.{ℕ, ◌+◌, ◌/◌, ◌≡◌, ◌⊎◌, true, List, [], ◌∷◌, drop, if◌then◌else◌}
use Rattle.std.proofs.Math.Option.{Option, none, some}
use Rattle.base.specs.Refusals.{not_refused}
use Rattle.listfile.specs.declared.check.Sizes.{Sizes}
use Rattle.walk.specs.Admission.{Plan}
use Rattle.walk.specs.declared.worst.Counts.{Counts}
use Rattle.reply.specs.Replies.{reply_of, replies_in}
use Rattle.reply.specs.Effect.{State, state_of}
use Rattle.calls.specs.Fit.{fits}
use Rattle.calls.specs.Calls.{take_at, RunThrough}
use Rattle.reply.specs.declared.replies.Reply.{Reply}
use Rattle.reply.specs.declared.records.Record.{Record}
use Rattle.row.specs.model.Words.{FormedFrom}
use Rattle.step.specs.model.Onward.{PreparedFor}

-- Replies taken ----------------------------------------------------------------------------------------------------------

-- a reply's bytes taken; a row that passed its check has no others
abbrev pub take_bytes : Plan → Option Reply → State → State
take_bytes p none s = s
take_bytes p (some reply) s = take_at p reply s

-- as many replies as there are, up to the end of the run
unfoldable pub takes_over : Plan → List (List ℕ) → ℕ → State → RunThrough
takes_over p [] taken s = record { refusal = not_refused; taken = taken; state = s }
takes_over p (r ∷ rs) taken s =
    if s.run.ended then record { refusal = not_refused; taken = taken; state = s }
    else takes_over p rs (taken + 1) (take_bytes p (reply_of r) s)

-- the run from a place of the row on: eight bytes are one reply
unfoldable pub row_from : Plan → List ℕ → ℕ → State → RunThrough
row_from p row at s = takes_over p (replies_in (drop at row)) (at / 8) s

-- the run stopped at a place of the row
abbrev pub stopped_at : ℕ → State → RunThrough
stopped_at at s = record { refusal = not_refused; taken = at / 8; state = s }

-- What holds on the way --------------------------------------------------------------------------------------------------

-- what admission leaves for a run whose incoming buffer has that length
pub record Grounds (list table : List ℕ) (s : Sizes) (room : ℕ) : Type 0 where
  pub counts : Counts
  pub outgoing : ℕ
  pub prepared : PreparedFor list table s counts room outgoing

-- a record on the way: it has ended, or it fits
abbrev pub Stage : Plan → Record → Type 0
Stage p r = (r.ended ≡ true) ⊎ (fits p r ≡ true)

-- from one place of the row to another, along the walk
pub record Moves (p : Plan) (row : List ℕ) (r : Record) (from : ℕ) (b : List ℕ) (r' : Record) (at : ℕ)
    (b' : List ℕ) : Type 0 where
  pub stage : Stage p r'
  pub formed : FormedFrom row at
  pub goes : (outgoing : List ℕ) → row_from p row from (state_of r b outgoing) ≡ row_from p row at (state_of r' b' outgoing)
