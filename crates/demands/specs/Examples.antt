-- Worked examples of demands, as equations over the definitions. Each call shows its refusal's number and place, the demand that it yields, if any, and
-- how many wait in the queue after it, with the mark.
use Rattle.std.specs.Prelude.{ℕ, ◌*◌, ◌-◌, ◌≡◌, List, [], ◌∷◌, ◌++◌, replicate}
use Rattle.base.specs.Bytes.{short_bytes}
use Rattle.demands.specs.declared.Demand.{Demand}
use Rattle.demands.specs.Demands.{demand_of, waiting_number, mark_in, with_first, Outcome, row_of}
use Rattle.demands.specs.Kept.{Call, Add, AddRow, Take, Clear, outcome_of, empty, yielded}

abbrev pub bytes_of : List Demand → List ℕ
bytes_of [] = []
bytes_of (d ∷ ds) = d.crate_number ∷ d.sgl ∷ bytes_of ds

abbrev pub shown : Outcome → List ℕ
shown o = o.queued.refusal.number ∷ o.queued.refusal.place ∷ bytes_of (yielded o.next) ++ waiting_number o.queue ∷ mark_in o.queue ∷ []

abbrev pub results : List ℕ → List Call → List (List ℕ)
results q [] = []
results q (c ∷ cs) = let o : Outcome = outcome_of q c in shown o ∷ results o.queue cs

abbrev pub add : ℕ → ℕ → Call
add c s = Add (demand_of c s)

-- n demands of crate 1 with SGL 1, in the first cells
abbrev pub filled : ℕ → List ℕ
filled n = replicate (2 * n) 1 ++ replicate (4096 - 2 * n) 0 ++ short_bytes 0 ++ short_bytes n ++ 0 ∷ []

pub record Examples : Type 0 where
  -- of an empty queue nothing is taken
  pub none : results empty (Take ∷ []) ≡ (0 ∷ 0 ∷ 0 ∷ 0 ∷ []) ∷ []
  -- crates 1 to 62, oldest out first
  pub crates :
      results empty (add 0x01 0x05 ∷ add 0x00 0x05 ∷ add 0x3F 0x05 ∷ add 0x3E 0x05 ∷ Take ∷ Take ∷ Take ∷ [])
      ≡ (0 ∷ 0 ∷ 1 ∷ 0 ∷ []) ∷ (25 ∷ 0 ∷ 1 ∷ 0 ∷ []) ∷ (25 ∷ 0 ∷ 1 ∷ 0 ∷ []) ∷ (0 ∷ 0 ∷ 2 ∷ 0 ∷ []) ∷ (0 ∷ 0 ∷ 0x01 ∷ 0x05 ∷ 1 ∷ 0 ∷ [])
      ∷ (0 ∷ 0 ∷ 0x3E ∷ 0x05 ∷ 0 ∷ 0 ∷ []) ∷ (0 ∷ 0 ∷ 0 ∷ 0 ∷ []) ∷ []
  -- a row of odd length, and one with a crate that is none
  pub rows :
      results empty (AddRow (0x01 ∷ 0x02 ∷ 0x03 ∷ 0x04 ∷ []) ∷ AddRow (0x01 ∷ 0x02 ∷ 0x03 ∷ []) ∷ AddRow (0x01 ∷ 0x02 ∷ 0x00 ∷ 0x11 ∷ []) ∷ Take ∷ [])
      ≡ (0 ∷ 0 ∷ 2 ∷ 0 ∷ []) ∷ (25 ∷ 0 ∷ 2 ∷ 0 ∷ []) ∷ (25 ∷ 0 ∷ 2 ∷ 0 ∷ []) ∷ (0 ∷ 0 ∷ 0x01 ∷ 0x02 ∷ 1 ∷ 0 ∷ []) ∷ []
  -- what a row leaves, byte by byte
  pub three : (row_of empty (0x01 ∷ 0x01 ∷ 0x01 ∷ 0x01 ∷ 0x01 ∷ 0x01 ∷ [])).queue ≡ filled 3
  -- one more when full; taking leaves the mark, and clear takes it off
  pub full :
      results (filled 2048) (add 0x01 0x77 ∷ Take ∷ add 0x01 0x88 ∷ Take ∷ Clear ∷ Take ∷ [])
      ≡ (0 ∷ 0 ∷ 2048 ∷ 1 ∷ []) ∷ (0 ∷ 0 ∷ 0x01 ∷ 0x01 ∷ 2047 ∷ 1 ∷ []) ∷ (0 ∷ 0 ∷ 2048 ∷ 1 ∷ []) ∷ (0 ∷ 0 ∷ 0x01 ∷ 0x01 ∷ 2047 ∷ 1 ∷ [])
      ∷ (0 ∷ 0 ∷ 0 ∷ 0 ∷ []) ∷ (0 ∷ 0 ∷ 0 ∷ 0 ∷ []) ∷ []
  -- a crate that is none, when full: refused, so that nothing is dropped
  pub full_refused :
      results (filled 2048) (add 0x00 0x77 ∷ Take ∷ []) ≡ (25 ∷ 0 ∷ 2048 ∷ 0 ∷ []) ∷ (0 ∷ 0 ∷ 0x01 ∷ 0x01 ∷ 2047 ∷ 0 ∷ []) ∷ []
  -- a row with room for its first demand
  pub room_for_one :
      results (filled 2047) (AddRow (0x02 ∷ 0x02 ∷ 0x03 ∷ 0x03 ∷ []) ∷ Take ∷ []) ≡ (0 ∷ 0 ∷ 2048 ∷ 1 ∷ []) ∷ (0 ∷ 0 ∷ 0x01 ∷ 0x01 ∷ 2047 ∷ 1 ∷ []) ∷ []
  -- round behind the last cell
  pub round :
      results (with_first 2047 empty) (add 0x01 0x05 ∷ add 0x02 0x06 ∷ Take ∷ Take ∷ [])
      ≡ (0 ∷ 0 ∷ 1 ∷ 0 ∷ []) ∷ (0 ∷ 0 ∷ 2 ∷ 0 ∷ []) ∷ (0 ∷ 0 ∷ 0x01 ∷ 0x05 ∷ 1 ∷ 0 ∷ []) ∷ (0 ∷ 0 ∷ 0x02 ∷ 0x06 ∷ 0 ∷ 0 ∷ []) ∷ []
  -- a cell behind the last, and a byte too few
  pub no_queue : results (with_first 2048 empty) (Clear ∷ []) ≡ (25 ∷ 0 ∷ 0 ∷ 0 ∷ []) ∷ []
  pub too_short : results (replicate 4100 0) (Take ∷ []) ≡ (25 ∷ 0 ∷ 0 ∷ 0 ∷ []) ∷ []
