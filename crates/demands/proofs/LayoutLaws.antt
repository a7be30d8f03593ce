-- The parts of a queue lie beside each other: one that is put is read as it was put, and the others stay. A cell's demand changes with that cell alone.
use Prim.Native.Nat.{ℕ, ◌+◌, ◌*◌, ◌≤◌, ◌<◌}
use mathlib.Core.Path.{◌≡◌, refl, ap₂, ◌∙◌}
use mathlib.Core.Bool.{true, false, ◌&&◌, and-true, and_assoc}
use mathlib.Core.List.{List, [], ◌∷◌}
use native.Mathlib.Omega.{arith}
use borrow.Author.Tests.{eq-eqb, ne_eqb, eqb-true, lt-ltb, ltb-true, le-leb, leb-true}
use lib.Dec.{leb, ltb, eqb}
use lib.ListN.{length, set, length-set}
use lib.Seq.{sets, length-sets, get_or-set_same}
use Rattle.base.specs.Bytes.{byte_at, short_bytes}
use Rattle.base.specs.Checks.{all_of}
use Rattle.base.proofs.Bools.{and_left, and_right, both}
use Rattle.base.proofs.Puts.{sets_other, sets_at, short_put, short_other}
use Rattle.demands.specs.declared.Demand.{Demand}
use Rattle.demands.specs.Demands.{demand_of, first_in, waiting_number, mark_in, with_first, with_waiting, with_mark, is_queue, cell_of, demand_at, with_demand}

-- what the bytes of a queue say
pub record Says (q : List ℕ) (first n mark : ℕ) : Type 0 where
  pub long : length q ≡ 4101
  pub first_is : first_in q ≡ first
  pub waiting_is : waiting_number q ≡ n
  pub mark_is : mark_in q ≡ mark

-- the limits, as facts
pub record Limits (q : List ℕ) : Type 0 where
  pub long : length q ≡ 4101
  pub first_below : first_in q < 2048
  pub waiting_most : waiting_number q ≤ 2048
  pub mark_most : mark_in q ≤ 1

pub limits : (q : List ℕ) → is_queue q ≡ true → Limits q
unfolding is_queue
limits q e =
    let is-long = eqb (length q) 4101 in
    let is-cell = ltb (first_in q) 2048 in
    let are-few = leb (waiting_number q) 2048 in
    let is-mark = leb (mark_in q) 1 in
    let behind-long = and_right is-long (all_of (is-cell ∷ are-few ∷ is-mark ∷ [])) e in
    let behind-first = and_right is-cell (all_of (are-few ∷ is-mark ∷ [])) behind-long in
    record {
      long = eqb-true _ _ (and_left is-long (all_of (is-cell ∷ are-few ∷ is-mark ∷ [])) e);
      first_below = ltb-true _ _ (and_left is-cell (all_of (are-few ∷ is-mark ∷ [])) behind-long);
      waiting_most = leb-true _ _ (and_left are-few (all_of (is-mark ∷ [])) behind-first);
      mark_most = leb-true _ _ (and_left is-mark true (and_right are-few (all_of (is-mark ∷ [])) behind-first));
    }

-- asked after the length, as code asks them
pub no_queue : (q : List ℕ) → ¬ (length q ≡ 4101) → false ≡ is_queue q
unfolding is_queue
no_queue q h = rw (ne_eqb (length q) 4101 h)

pub by_parts : (q : List ℕ) → length q ≡ 4101 → (ltb (first_in q) 2048 && leb (waiting_number q) 2048) && leb (mark_in q) 1 ≡ is_queue q
unfolding is_queue
by_parts q h = rw (eq-eqb (length q) 4101 h) (simp (and_assoc, and-true))

pub is_queue_lem : {q : List ℕ} {first n mark : ℕ} → Says q first n mark → first < 2048 → n ≤ 2048 → mark ≤ 1 → is_queue q ≡ true
unfolding is_queue
is_queue_lem {q = q} s f n m =
    both (eq-eqb (length q) 4101 s.long)
    (both (lt-ltb (first_in q) 2048 (omega (arith, s.first_is, f)))
    (both (le-leb (waiting_number q) 2048 (omega (arith, s.waiting_is, n))) (both (le-leb (mark_in q) 1 (omega (arith, s.mark_is, m))) refl)))

pub says : {q : List ℕ} → Limits q → Says q (first_in q) (waiting_number q) (mark_in q)
says l = record { long = l.long; first_is = refl; waiting_is = refl; mark_is = refl }

-- A part put in ----------------------------------------------------------------------------------------------------------

module _ {q : List ℕ} {first n mark : ℕ} (s : Says q first n mark) where
  pub first_put : (v : ℕ) → v < 65536 → Says (with_first v q) v n mark
  unfolding byte_at
  first_put v b = record {
    long = length-sets q 4096 (short_bytes v) ∙ s.long;
    first_is = short_put q 4096 v (omega (arith, s.long)) b;
    waiting_is = short_other q 4096 (short_bytes v) 4098 (λ h. omega arith) ∙ s.waiting_is;
    mark_is = sets_other q 4096 (short_bytes v) 4100 (λ h. omega arith) ∙ s.mark_is;
  }

  pub waiting_put : (v : ℕ) → v < 65536 → Says (with_waiting v q) first v mark
  unfolding byte_at
  waiting_put v b = record {
    long = length-sets q 4098 (short_bytes v) ∙ s.long;
    first_is = short_other q 4098 (short_bytes v) 4096 (λ h. omega arith) ∙ s.first_is;
    waiting_is = short_put q 4098 v (omega (arith, s.long)) b;
    mark_is = sets_other q 4098 (short_bytes v) 4100 (λ h. omega arith) ∙ s.mark_is;
  }

  pub mark_put : (v : ℕ) → Says (with_mark v q) first n v
  unfolding byte_at
  mark_put v = record {
    long = length-set q 4100 v ∙ s.long;
    first_is = short_other q 4100 (v ∷ []) 4096 (λ h. omega arith) ∙ s.first_is;
    waiting_is = short_other q 4100 (v ∷ []) 4098 (λ h. omega arith) ∙ s.waiting_is;
    mark_is = get_or-set_same q 4100 v 0 (omega (arith, s.long));
  }

  pub demand_put : (k : ℕ) (d : Demand) → Says (with_demand k d q) first n mark
  unfolding with_demand byte_at
  demand_put k d =
      let bytes = d.crate_number ∷ d.sgl ∷ [] in
      record {
        long = length-sets q (cell_of k * 2) bytes ∙ s.long;
        first_is = short_other q (cell_of k * 2) bytes 4096 (λ h. omega arith) ∙ s.first_is;
        waiting_is = short_other q (cell_of k * 2) bytes 4098 (λ h. omega arith) ∙ s.waiting_is;
        mark_is = sets_other q (cell_of k * 2) bytes 4100 (λ h. omega arith) ∙ s.mark_is;
      }

-- bytes that keep the limits keep them with a part put in
module _ (q : List ℕ) (e : is_queue q ≡ true) where
  kept : Limits q
  kept = limits q e

  pub mark_kept : (v : ℕ) → v ≤ 1 → is_queue (with_mark v q) ≡ true
  mark_kept v b = is_queue_lem (mark_put (says kept) v) kept.first_below kept.waiting_most b

  pub waiting_kept : (v : ℕ) → v ≤ 2048 → is_queue (with_waiting v q) ≡ true
  waiting_kept v b = is_queue_lem (waiting_put (says kept) v (omega arith)) kept.first_below b kept.mark_most

  pub first_kept : (v : ℕ) → v < 2048 → is_queue (with_first v q) ≡ true
  first_kept v b = is_queue_lem (first_put (says kept) v (omega arith)) b kept.waiting_most kept.mark_most

  pub cell_kept : (at v : ℕ) → at < 4096 → is_queue (set q at v) ≡ true
  unfolding byte_at
  cell_kept at v b =
      let s : Says (set q at v) (first_in q) (waiting_number q) (mark_in q) = record {
        long = length-set q at v ∙ kept.long;
        first_is = short_other q at (v ∷ []) 4096 (λ h. omega arith);
        waiting_is = short_other q at (v ∷ []) 4098 (λ h. omega arith);
        mark_is = sets_other q at (v ∷ []) 4100 (λ h. omega arith);
      } in
      is_queue_lem s kept.first_below kept.waiting_most kept.mark_most

-- Cells ------------------------------------------------------------------------------------------------------------------

-- the parts lie behind the cells
behind : (q : List ℕ) (i : ℕ) (bytes : List ℕ) → 4096 ≤ i → (k : ℕ) → demand_at (sets q i bytes) k ≡ demand_at q k
unfolding demand_at byte_at
behind q i bytes h k = ap₂ demand_of (sets_other q i bytes (cell_of k * 2) (λ g. omega arith)) (sets_other q i bytes (cell_of k * 2 + 1) (λ g. omega arith))

module _ (q : List ℕ) (v k : ℕ) where
  pub first_cells : demand_at (with_first v q) k ≡ demand_at q k
  first_cells = behind q 4096 (short_bytes v) (omega arith) k

  pub waiting_cells : demand_at (with_waiting v q) k ≡ demand_at q k
  waiting_cells = behind q 4098 (short_bytes v) (omega arith) k

  pub mark_cells : demand_at (with_mark v q) k ≡ demand_at q k
  mark_cells = behind q 4100 (v ∷ []) (omega arith) k

module _ (q : List ℕ) (k : ℕ) (d : Demand) where
  pub cell_put : length q ≡ 4101 → demand_at (with_demand k d q) k ≡ d
  unfolding demand_at with_demand byte_at
  cell_put h =
      let at = sets_at q (cell_of k * 2) (d.crate_number ∷ d.sgl ∷ []) (omega (arith, h)) in
      ap₂ demand_of (at (cell_of k * 2) 0 (omega arith) (omega arith)) (at (cell_of k * 2 + 1) 1 (omega arith) (omega arith))

  pub cell_other : (j : ℕ) → ¬ (cell_of j ≡ cell_of k) → demand_at (with_demand k d q) j ≡ demand_at q j
  unfolding demand_at with_demand byte_at
  cell_other j h =
      let other = sets_other q (cell_of k * 2) (d.crate_number ∷ d.sgl ∷ []) in
      ap₂ demand_of (other (cell_of j * 2) (λ g. omega (arith, h))) (other (cell_of j * 2 + 1) (λ g. omega (arith, h)))

-- cells that follow each other around
pub cell_round : (q : List ℕ) (j k : ℕ) → cell_of j ≡ cell_of k → demand_at q j ≡ demand_at q k
unfolding demand_at
cell_round q j k e = rw e
