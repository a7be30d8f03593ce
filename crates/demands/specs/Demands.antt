-- Demands kept beside the run (document 02, E2). The queue is bytes that the host lends.
use Rattle.std.specs.Prelude.{ℕ, zero, suc, ◌+◌, ◌-◌, ◌*◌, ◌%◌, Bool, true, false, ◌&&◌, not, Option, Some, None, List, [], ◌∷◌, leb, ltb, eqb, length, set, if◌then◌else◌}
use Rattle.std.proofs.lemmas.List.Edits.{sets}
use Rattle.base.specs.Bytes.{byte_at, short_at, short_bytes}
use Rattle.base.specs.Checks.{all_of}
use Rattle.base.specs.Refusals.{not_refused, refusal}
use Rattle.base.specs.Refusals.{Refusal}
use Rattle.demands.specs.declared.Demand.{Demand}

-- "each two bytes: a crate number and an SGL (graded LAM, look-at-me) byte"
abbrev pub demand_of : ℕ → ℕ → Demand
demand_of c s = record { crate_number = c; sgl = s }

-- The layout -------------------------------------------------------------------------------------------------------------

-- 4,101 bytes, ours: 2,048 cells of two bytes, then the cell of the oldest demand and how many wait, two bytes each, and the overflow mark. All zero is
-- the empty queue.
abbrev pub first_in : List ℕ → ℕ
first_in q = short_at q 4096

abbrev pub waiting_number : List ℕ → ℕ
waiting_number q = short_at q 4098

abbrev pub mark_in : List ℕ → ℕ
mark_in q = byte_at q 4100

-- the same bytes with one of these put in
abbrev pub with_first : ℕ → List ℕ → List ℕ
with_first cell q = sets q 4096 (short_bytes cell)

abbrev pub with_waiting : ℕ → List ℕ → List ℕ
with_waiting n q = sets q 4098 (short_bytes n)

abbrev pub with_mark : ℕ → List ℕ → List ℕ
with_mark mark q = set q 4100 mark

-- "25 for a queue handed in that breaks its layout's limits"
unfoldable pub is_queue : List ℕ → Bool
is_queue q = all_of (eqb (length q) 4101 ∷ ltb (first_in q) 2048 ∷ leb (waiting_number q) 2048 ∷ leb (mark_in q) 1 ∷ [])

-- cells follow each other around: behind the last comes the first
abbrev pub cell_of : ℕ → ℕ
cell_of k = k % 2048

-- the demand in a cell, and the bytes with one put there
unfoldable pub demand_at : List ℕ → ℕ → Demand
demand_at q k = demand_of (byte_at q (cell_of k * 2)) (byte_at q (cell_of k * 2 + 1))

unfoldable pub with_demand : ℕ → Demand → List ℕ → List ℕ
with_demand k d q = sets q (cell_of k * 2) (d.crate_number ∷ d.sgl ∷ [])

-- what waits, oldest first
unfoldable pub waiting_from : List ℕ → ℕ → ℕ → List Demand
waiting_from q k zero = []
waiting_from q k (suc n) = demand_at q k ∷ waiting_from q (suc k) n

abbrev pub waiting_in : List ℕ → List Demand
waiting_in q = waiting_from q (first_in q) (waiting_number q)

-- Adding -----------------------------------------------------------------------------------------------------------------

-- "Keep up to 2,048, oldest out first": behind all that wait
abbrev pub kept_behind : List ℕ → Demand → List ℕ
kept_behind q d = with_waiting (waiting_number q + 1) (with_demand (first_in q + waiting_number q) d q)

-- "One more when full is dropped and sets an overflow mark"
unfoldable pub added_to : List ℕ → Demand → List ℕ
added_to q d = if eqb (waiting_number q) 2048 then with_mark 1 q else kept_behind q d

-- in order
unfoldable pub added_all : List ℕ → List Demand → List ℕ
added_all q [] = q
added_all q (d ∷ ds) = added_all (added_to q d) ds

-- 25 for "a demand whose crate isn't 1 to 62"
abbrev pub is_crate : ℕ → Bool
is_crate c = leb 1 c && leb c 62

-- of every demand
abbrev pub are_crates : List Demand → Bool
are_crates [] = true
are_crates (d ∷ ds) = is_crate d.crate_number && are_crates ds

-- the demands of a row, two bytes each
unfoldable pub demands_in : List ℕ → List Demand
demands_in [] = []
demands_in (c ∷ []) = []
demands_in (c ∷ s ∷ row) = demand_of c s ∷ demands_in row

-- 25 for "a row of odd length"
unfoldable pub is_row : List ℕ → Bool
is_row row = eqb (length row % 2) 0 && are_crates (demands_in row)

-- The calls --------------------------------------------------------------------------------------------------------------

-- what a call answers: its refusal, how many wait, and whether one was dropped since the last clear
pub record Queued : Type 0 where
  pub refusal : Refusal
  pub waiting : ℕ
  pub overflow : Bool

-- what a call answers, what it yields, and the queue after it
pub record Outcome : Type 0 where
  pub queued : Queued
  pub next : Option Demand
  pub queue : List ℕ

-- how many wait, and the mark
abbrev pub answer_in : List ℕ → Queued
answer_in q = record { refusal = not_refused; waiting = waiting_number q; overflow = not (eqb (mark_in q) 0) }

-- a call that is accepted
abbrev pub leaving : Option Demand → List ℕ → Outcome
leaving next q = record { queued = answer_in q; next = next; queue = q }

-- "A refusal yields number, place and zeros" (document 01)
abbrev pub refused_answer : Queued
refused_answer = record { refusal = refusal 25; waiting = 0; overflow = false }

-- "a call so refused changes neither queue nor mark"
abbrev pub refusing : List ℕ → Outcome
refusing q = record { queued = refused_answer; next = None; queue = q }

-- adding one: refused for the queue or the crate, 25
unfoldable pub add_of : List ℕ → Demand → Outcome
add_of q d = if is_queue q && is_crate d.crate_number then leaving None (added_to q d) else refusing q

-- adding a row: refused for the queue or any part of the row, which is judged whole before a demand of it is added
unfoldable pub row_of : List ℕ → List ℕ → Outcome
row_of q row = if is_queue q && is_row row then leaving None (added_all q (demands_in row)) else refusing q

-- "Taking yields nothing exactly when none waits"; "oldest out first"
abbrev pub taken_from : List ℕ → Outcome
taken_from q =
    if eqb (waiting_number q) 0 then leaving None q
    else leaving (Some (demand_at q (first_in q))) (with_first (cell_of (first_in q + 1)) (with_waiting (waiting_number q - 1) q))

unfoldable pub take_of : List ℕ → Outcome
take_of q = if is_queue q then taken_from q else refusing q

-- "an overflow mark, which only the clear call takes off; clear also empties"
unfoldable pub clear_of : List ℕ → Outcome
clear_of q = if is_queue q then leaving None (with_waiting 0 (with_mark 0 q)) else refusing q
