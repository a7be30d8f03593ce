-- Each call by its cases: a demand dropped or put behind the others, the oldest taken or none, and a call refused or not.
use Prim.Native.Nat.{ℕ, ◌+◌, ◌-◌, ◌*◌}
use mathlib.Core.Path.{◌≡◌, ◌∙◌}
use mathlib.Core.Bool.{true, ◌&&◌}
use mathlib.Core.List.{List}
use native.Mathlib.Numerals.{add-one}
use native.Mathlib.Omega.{arith}
use borrow.Author.Tests.{eq-eqb, ne_eqb}
use lib.Dec.{eqb}
use lib.ListN.{set, get_or}
use Rattle.std.specs.Prelude.{Some, None}
use Rattle.base.specs.Bytes.{byte_at}
use Rattle.base.proofs.Tests.{on}
use Rattle.demands.specs.declared.Demand.{Demand}
use Rattle.demands.specs.Demands.{demand_of, first_in, waiting_number, with_first, with_waiting, with_mark, is_queue, cell_of, demand_at, with_demand, is_crate, added_to, answer_in, leaving, add_of, taken_from, take_of}
use Rattle.demands.proofs.LayoutLaws.{Limits}

-- One demand -------------------------------------------------------------------------------------------------------------

-- `add` names this in its `tactic`, and no answer does: the name of the goal there holds the number 2048, which edits change
pub added_full : (q : List ℕ) (d : Demand) → waiting_number q ≡ 2048 → added_to q d ≡ with_mark 1 q
unfolding added_to
added_full q d h = rw (eq-eqb (waiting_number q) 2048 h)

module _ (q : List ℕ) {n : ℕ} (e : n ≡ waiting_number q) where
  pub added_room : (d : Demand) {f : ℕ} → f ≡ first_in q → ¬ (n ≡ 2048)
      → with_waiting (n + 1) (set (set q (cell_of (f + n) * 2) d.crate_number) (cell_of (f + n) * 2 + 1) d.sgl) ≡ added_to q d
  unfolding added_to with_demand
  added_room d g h = rw (g, e, ne_eqb (waiting_number q) 2048 (λ t. h (e ∙ t)), add-one (cell_of (first_in q + waiting_number q) * 2))

  pub taken_one : (l : Limits q) {f : ℕ} → f ≡ first_in q → ¬ (n ≡ 0)
      → taken_from q ≡ leaving (Some (demand_of (get_or q (f * 2) 0) (get_or q (f * 2 + 1) 0))) (with_first (cell_of (f + 1)) (with_waiting (n - 1) q))
  unfolding demand_at byte_at
  taken_one l g h =
      let cell : cell_of (first_in q) ≡ first_in q = omega (arith, l.first_below) in
      rw (g, e, ne_eqb (waiting_number q) 0 (λ t. h (e ∙ t)), cell)

-- A call refused or not --------------------------------------------------------------------------------------------------

module _ (q : List ℕ) (d : Demand) where
  pub add_left : is_queue q && is_crate d.crate_number ≡ true → add_of q d ≡ leaving None (added_to q d)
  unfolding add_of
  add_left t = rw t

module _ (q : List ℕ) where
  pub take_left : is_queue q ≡ true → take_of q ≡ taken_from q
  unfolding take_of
  take_left t = rw t

-- what taking leaves is answered as it is
pub taken_answer : (q : List ℕ) → answer_in (taken_from q).queue ≡ (taken_from q).queued
taken_answer q = on (eqb (waiting_number q) 0) (λ t. rw t) (λ t. rw t)
