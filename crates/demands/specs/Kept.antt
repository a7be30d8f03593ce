-- What a queue keeps over every list of calls (document 02, E2). The statement is Kept, last on this page; the proof is proofs/Kept.
use Rattle.std.specs.Prelude.{Option, Some, None, ℕ, ◌+◌, ◌≡◌, Bool, true, false, List, [], ◌∷◌, ◌++◌, eqb, length, replicate, if◌then◌else◌}
use Rattle.base.specs.Refusals.{refusal}
use Rattle.demands.specs.declared.Demand.{Demand}
use Rattle.demands.specs.Demands.{mark_in, waiting_in, is_crate, is_row, demands_in, Outcome, add_of, row_of, take_of, clear_of}

-- Lists of calls ---------------------------------------------------------------------------------------------------------

-- "add, add-row, take and clear"
pub data Call : Type 0 where
  Add : Demand → Call
  AddRow : List ℕ → Call
  Take : Call
  Clear : Call

-- what a call leaves
abbrev pub outcome_of : List ℕ → Call → Outcome
outcome_of q (Add d) = add_of q d
outcome_of q (AddRow row) = row_of q row
outcome_of q Take = take_of q
outcome_of q Clear = clear_of q

abbrev pub is_accepted : Outcome → Bool
is_accepted o = eqb o.queued.refusal.number 0

-- the queue after calls, in order
unfoldable pub after : List ℕ → List Call → List ℕ
after q [] = q
after q (c ∷ cs) = after (outcome_of q c).queue cs

-- "from empty"
unfoldable pub empty : List ℕ
empty = replicate 4101 0

-- Refused calls ----------------------------------------------------------------------------------------------------------

-- what is asked of a call with a queue that keeps its limits
abbrev pub is_good : Call → Bool
is_good (Add d) = is_crate d.crate_number
is_good (AddRow row) = is_row row
is_good Take = true
is_good Clear = true

-- What is kept -----------------------------------------------------------------------------------------------------------

-- "what accepted adds brought"
abbrev pub brought_by : List ℕ → Call → List Demand
brought_by q (Add d) = if is_accepted (add_of q d) then d ∷ [] else []
brought_by q (AddRow row) = if is_accepted (row_of q row) then demands_in row else []
brought_by q Take = []
brought_by q Clear = []

-- "less what came with 2,048 waiting": of demands that come one by one, the first with n waiting, those that stay, and those that do not
unfoldable pub staying : ℕ → List Demand → List Demand
staying n [] = []
staying n (d ∷ ds) = if eqb n 2048 then staying n ds else d ∷ staying (n + 1) ds

unfoldable pub dropped : ℕ → List Demand → List Demand
dropped n [] = []
dropped n (d ∷ ds) = if eqb n 2048 then d ∷ dropped n ds else dropped (n + 1) ds

abbrev pub staying_by : List ℕ → Call → List Demand
staying_by q c = staying (length (waiting_in q)) (brought_by q c)

unfoldable pub staying_over : List ℕ → List Call → List Demand
staying_over q [] = []
staying_over q (c ∷ cs) = staying_by q c ++ staying_over (outcome_of q c).queue cs

-- "what was taken and cleared, in order"
abbrev pub yielded : Option Demand → List Demand
yielded None = []
yielded (Some d) = d ∷ []

abbrev pub gone_by : List ℕ → Call → List Demand
gone_by q (Add d) = []
gone_by q (AddRow row) = []
gone_by q Take = yielded (take_of q).next
gone_by q Clear = waiting_in q

unfoldable pub gone_over : List ℕ → List Call → List Demand
gone_over q [] = []
gone_over q (c ∷ cs) = gone_by q c ++ gone_over (outcome_of q c).queue cs

-- The mark ---------------------------------------------------------------------------------------------------------------

-- what was dropped since the last clear, given what was before a call
abbrev pub lost_by : List ℕ → List Demand → Call → List Demand
lost_by q lost (Add d) = lost ++ dropped (length (waiting_in q)) (brought_by q (Add d))
lost_by q lost (AddRow row) = lost ++ dropped (length (waiting_in q)) (brought_by q (AddRow row))
lost_by q lost Take = lost
lost_by q lost Clear = []

unfoldable pub lost_over : List ℕ → List Demand → List Call → List Demand
lost_over q lost [] = lost
lost_over q lost (c ∷ cs) = lost_over (outcome_of q c).queue (lost_by q lost c) cs

-- set exactly when any was
abbrev pub mark_for : List Demand → ℕ
mark_for [] = 0
mark_for (d ∷ ds) = 1

-- A row, and its demands singly ------------------------------------------------------------------------------------------

-- each of them in a call of its own, one after the other: none is refused, and what they leave
abbrev pub EachAccepted : List ℕ → List Demand → Type 0
EachAccepted q [] = Unit {0}
EachAccepted q (d ∷ ds) = (is_accepted (add_of q d) ≡ true) × EachAccepted (add_of q d).queue ds

abbrev pub each_added : List ℕ → List Demand → List ℕ
each_added q [] = q
each_added q (d ∷ ds) = each_added (add_of q d).queue ds

-- The statement ----------------------------------------------------------------------------------------------------------

-- nothing of none, else the oldest
abbrev pub oldest_of : List Demand → Option Demand
oldest_of [] = None
oldest_of (d ∷ ds) = Some d

pub record Kept : Type 0 where
  -- "For every list of add, add-row, take and clear from empty": "what was taken and cleared, in order, followed by what still waits, is what accepted
  -- adds brought less what came with 2,048 waiting"
  pub kept : (cs : List Call) → gone_over empty cs ++ waiting_in (after empty cs) ≡ staying_over empty cs
  -- "Taking yields nothing exactly when none waits", else the oldest
  pub takes : (cs : List Call) → (take_of (after empty cs)).next ≡ oldest_of (waiting_in (after empty cs))
  -- an overflow mark is set exactly when one was dropped since the last clear
  pub mark : (cs : List Call) → mark_in (after empty cs) ≡ mark_for (lost_over empty [] cs)
  -- a call is refused for what it was given alone, never for what calls before it left
  pub accepts : (cs : List Call) (c : Call) → is_accepted (outcome_of (after empty cs) c) ≡ is_good c
  -- an answer tells how many wait
  pub counts : (q : List ℕ) (c : Call) → is_accepted (outcome_of q c) ≡ true → (outcome_of q c).queued.waiting ≡ length (waiting_in (outcome_of q c).queue)
  -- "A row that is accepted must leave what adding its demands singly leaves, overflow included"
  pub row : (q row : List ℕ) → is_accepted (row_of q row) ≡ true
      → EachAccepted q (demands_in row) × ((row_of q row).queue ≡ each_added q (demands_in row))
  -- "a call so refused changes neither queue nor mark", whatever bytes it was given
  pub refused : (q : List ℕ) (c : Call) → is_accepted (outcome_of q c) ≡ false → ((outcome_of q c).queue ≡ q) × ((outcome_of q c).queued.refusal ≡ refusal 25)
