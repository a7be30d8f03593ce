-- The slowest reply: answered with it at every operation, a run makes the worst count of operations (proofs/WorstReached). In such
-- a run each slowest reply is no cause and lowers the most still possible by exactly one.
use Rattle.std.specs.Prelude.{ℕ, Bool, List, [], ◌∷◌, if◌then◌else◌}
use Rattle.qmodes.specs.declared.modes.QMode.{QMode}
use Rattle.reply.specs.declared.records.Record.{Record}
use Rattle.qmodes.specs.Modes.{slowest_q}

-- whether the slowest answer at a record has Q = 1
abbrev pub slowest_at : ℕ → QMode → Record → Bool
slowest_at limit q r = slowest_q limit q r.left r.tries r.position

-- its eight bytes: an answer with X = 1 and data 0
unfoldable pub slowest_reply : ℕ → QMode → Record → List ℕ
slowest_reply limit q r = 0 ∷ (if slowest_at limit q r then 3 else 2) ∷ 0 ∷ 0 ∷ 0 ∷ 0 ∷ 0 ∷ 0 ∷ []
