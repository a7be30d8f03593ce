-- What waits, cell by cell around the queue. A demand put behind those that wait lies in a cell of none of them, since fewer than 2,048 wait; and the cell
-- after the oldest is the oldest's when that is gone.
use Prim.Native.Nat.{ℕ, zero, suc, ◌+◌, ◌-◌, ◌%◌, ◌<◌}
use mathlib.Core.Path.{◌≡◌, refl, sym, ap, ap₂, ◌∙◌}
use mathlib.Core.Bool.{true}
use mathlib.Core.List.{List, [], ◌∷◌, ◌++◌, append-nil, append_assoc}
use native.Mathlib.Omega.{arith}
use native.Mathlib.Nat.{add-zero}
use native.Mathlib.Numerals.{add-one}
use borrow.Author.Tests.{eqb-true, eqb-false, eq-eqb, ne_eqb}
use lib.Dec.{eqb}
use lib.ListN.{length, length-append}
use Rattle.std.specs.Prelude.{Option, Some, None}
use Rattle.base.proofs.Tests.{on}
use Rattle.demands.specs.declared.Demand.{Demand}
use Rattle.demands.specs.Demands.{first_in, waiting_number, mark_in, with_first, with_waiting, with_mark, with_demand, is_queue, cell_of, demand_at, waiting_from, waiting_in, kept_behind, added_to, added_all, taken_from}
use Rattle.demands.specs.Kept.{staying, dropped, mark_for, yielded, oldest_of}
use Rattle.demands.proofs.LayoutLaws.{Says, Limits, limits, says, is_queue_lem, first_put, waiting_put, mark_put, demand_put, first_cells, waiting_cells, mark_cells, cell_put, cell_other, cell_round}

-- From a place on --------------------------------------------------------------------------------------------------------

pub length_waiting : (q : List ℕ) (k n : ℕ) → length (waiting_from q k n) ≡ n
unfolding waiting_from
length_waiting q k zero = refl
length_waiting q k (suc n) = ap suc (length_waiting q (suc k) n)

-- cells that are the same, in two queues or around
waiting_same : (q q' : List ℕ) (k k' n : ℕ) → ((j : ℕ) → j < n → demand_at q (k + j) ≡ demand_at q' (k' + j)) → waiting_from q k n ≡ waiting_from q' k' n
unfolding waiting_from
waiting_same q q' k k' zero h = refl
waiting_same q q' k k' (suc n) h =
    let here : demand_at q k ≡ demand_at q' k' = ap (demand_at q) (sym (add-zero k)) ∙ h 0 (omega arith) ∙ ap (demand_at q') (add-zero k') in
    ap₂ (λ (d : Demand) (ds : List Demand). d ∷ ds) here (waiting_same q q' (suc k) (suc k') n (λ j b. next j b))
  where
    next : (j : ℕ) → j < n → demand_at q (suc k + j) ≡ demand_at q' (suc k' + j)
    next j b =
        let one : suc k + j ≡ k + suc j = omega arith in
        let other : suc k' + j ≡ k' + suc j = omega arith in
        rw (one, other) (h (suc j) (omega arith))

waiting_more : (q : List ℕ) (k n : ℕ) → waiting_from q k (suc n) ≡ waiting_from q k n ++ demand_at q (k + n) ∷ []
unfolding waiting_from
waiting_more q k zero = ap (λ (j : ℕ). demand_at q j ∷ []) (sym (add-zero k))
waiting_more q k (suc n) =
    let next : suc k + n ≡ k + suc n = omega arith in
    ap (λ (ds : List Demand). demand_at q k ∷ ds) (waiting_more q (suc k) n ∙ rw next)

-- what waits in bytes of which first and number are known
waits : {q : List ℕ} {first n mark : ℕ} → Says q first n mark → waiting_in q ≡ waiting_from q first n
waits {q = q} s = ap₂ (waiting_from q) s.first_is s.waiting_is

-- One more ---------------------------------------------------------------------------------------------------------------

-- what demands that come to a queue leave: those that stay behind those that wait, and the mark where some are dropped
pub record Added (q : List ℕ) (ds : List Demand) (q' : List ℕ) : Type 0 where
  pub queue : is_queue q' ≡ true
  pub wait : waiting_in q' ≡ waiting_in q ++ staying (waiting_number q) ds
  pub mark : (lost : List Demand) → mark_in q ≡ mark_for lost → mark_in q' ≡ mark_for (lost ++ dropped (waiting_number q) ds)

mark_more : (lost : List Demand) (d : Demand) → mark_for (lost ++ d ∷ []) ≡ 1
mark_more [] d = refl
mark_more (x ∷ lost) d = refl

module _ (q : List ℕ) (e : is_queue q ≡ true) (d : Demand) where
  l : Limits q
  l = limits q e

  full : waiting_number q ≡ 2048 → Added q (d ∷ []) (with_mark 1 q)
  unfolding staying dropped
  full h =
      let s = mark_put (says l) 1 in
      let test = eq-eqb (waiting_number q) 2048 h in
      record {
        queue = is_queue_lem s l.first_below l.waiting_most (omega arith);
        wait =
            waits s ∙ waiting_same (with_mark 1 q) q (first_in q) (first_in q) (waiting_number q) (λ j b. mark_cells q 1 (first_in q + j))
            ∙ sym (append-nil (waiting_in q)) ∙ rw test;
        mark = λ lost g. s.mark_is ∙ rw test (sym (mark_more lost d));
      }

  room : ¬ (waiting_number q ≡ 2048) → Added q (d ∷ []) (kept_behind q d)
  unfolding staying dropped
  room h =
      let first = first_in q in
      let n = waiting_number q in
      let put = with_demand (first + n) d q in
      let s = waiting_put (demand_put (says l) (first + n) d) (n + 1) (omega (arith, l.waiting_most)) in
      let test = ne_eqb n 2048 h in
      record {
        queue = is_queue_lem s l.first_below (omega (arith, l.waiting_most, h)) l.mark_most;
        wait =
            waits s
            ∙ waiting_same (with_waiting (n + 1) put) put first first (n + 1) (λ j b. waiting_cells put (n + 1) (first + j))
            ∙ ap (waiting_from put first) (add-one n)
            ∙ waiting_more put first n
            ∙ ap₂ (λ (ds : List Demand) (x : Demand). ds ++ x ∷ [])
            (waiting_same put q first first n (λ j b. cell_other q (first + n) d (first + j) (λ g. apart first n j b (omega (arith, l.waiting_most, h)) g)))
            (cell_put q (first + n) d l.long)
            ∙ rw test;
        mark = λ lost g. s.mark_is ∙ g ∙ ap mark_for (sym (append-nil lost)) ∙ rw test;
      }
    where
      apart : (f n j : ℕ) → j < n → n < 2048 → (f + j) % 2048 ≡ (f + n) % 2048 → ⊥
      apart f n j b m g = omega arith

  pub added_one : Added q (d ∷ []) (added_to q d)
  unfolding added_to
  added_one = on (eqb (waiting_number q) 2048) (λ t. rw t (full (eqb-true _ _ t))) (λ t. rw t (room (eqb-false _ _ t)))

-- Several ----------------------------------------------------------------------------------------------------------------

-- the first, then the others
staying_more : (n : ℕ) (d : Demand) (ds : List Demand) → staying n (d ∷ ds) ≡ staying n (d ∷ []) ++ staying (n + length (staying n (d ∷ []))) ds
unfolding staying
staying_more n d ds = on (eqb n 2048) (λ t. rw (t, add-zero n)) (λ t. rw t)

dropped_more : (n : ℕ) (d : Demand) (ds : List Demand) → dropped n (d ∷ ds) ≡ dropped n (d ∷ []) ++ dropped (n + length (staying n (d ∷ []))) ds
unfolding staying dropped
dropped_more n d ds = on (eqb n 2048) (λ t. rw (t, add-zero n)) (λ t. rw t)

-- how many wait then
added_number : {q q' : List ℕ} {ds : List Demand} → Added q ds q' → waiting_number q' ≡ waiting_number q + length (staying (waiting_number q) ds)
added_number {q = q} {q' = q'} {ds = ds} a =
    sym (length_waiting q' (first_in q') (waiting_number q')) ∙ ap length a.wait ∙ length-append (waiting_in q) (staying (waiting_number q) ds)
    ∙ ap (λ (n : ℕ). n + length (staying (waiting_number q) ds)) (length_waiting q (first_in q) (waiting_number q))

pub added_all_lem : (q : List ℕ) (ds : List Demand) → is_queue q ≡ true → Added q ds (added_all q ds)
unfolding added_all staying dropped
added_all_lem q [] e = record {
  queue = e;
  wait = sym (append-nil (waiting_in q));
  mark = λ lost g. g ∙ ap mark_for (sym (append-nil lost));
}
added_all_lem q (d ∷ ds) e =
    let n = waiting_number q in
    let one = added_one q e d in
    let others = added_all_lem (added_to q d) ds one.queue in
    let number = added_number one in
    record {
      queue = others.queue;
      wait =
          others.wait ∙ ap₂ (λ (ws : List Demand) (k : ℕ). ws ++ staying k ds) one.wait number
          ∙ append_assoc (waiting_in q) (staying n (d ∷ [])) (staying (n + length (staying n (d ∷ []))) ds)
          ∙ ap (λ (ws : List Demand). waiting_in q ++ ws) (sym (staying_more n d ds));
      mark = λ lost g.
          others.mark (lost ++ dropped n (d ∷ [])) (one.mark lost g) ∙ ap (λ (k : ℕ). mark_for ((lost ++ dropped n (d ∷ [])) ++ dropped k ds)) number
          ∙ ap mark_for (append_assoc lost (dropped n (d ∷ [])) (dropped (n + length (staying n (d ∷ []))) ds)
          ∙ ap (λ (ws : List Demand). lost ++ ws) (sym (dropped_more n d ds)));
    }

-- The oldest out, and all out --------------------------------------------------------------------------------------------

-- what taking leaves
pub record Shorter (q : List ℕ) (next : Option Demand) (q' : List ℕ) : Type 0 where
  pub queue : is_queue q' ≡ true
  pub wait : waiting_in q ≡ yielded next ++ waiting_in q'
  pub oldest : next ≡ oldest_of (waiting_in q)
  pub mark : mark_in q' ≡ mark_in q

module _ (q : List ℕ) (e : is_queue q ≡ true) where
  lim : Limits q
  lim = limits q e

  empty_out : waiting_number q ≡ 0 → Shorter q None q
  unfolding waiting_from
  empty_out h = record { queue = e; wait = refl; oldest = rw h; mark = refl }

  one_out : ¬ (waiting_number q ≡ 0) → Shorter q (Some (demand_at q (first_in q))) (with_first (cell_of (first_in q + 1)) (with_waiting (waiting_number q - 1) q))
  unfolding waiting_from
  one_out h =
      let first = first_in q in
      let n = waiting_number q in
      let fewer = with_waiting (n - 1) q in
      let left = with_first (cell_of (first + 1)) fewer in
      let s = first_put (waiting_put (says lim) (n - 1) (omega (arith, lim.waiting_most))) (cell_of (first + 1)) (omega arith) in
      let number : n ≡ suc (n - 1) = omega (arith, h) in
      let split : waiting_in q ≡ demand_at q first ∷ waiting_from q (suc first) (n - 1) = ap (waiting_from q first) number in
      record {
        queue = is_queue_lem s (omega arith) (omega (arith, lim.waiting_most)) lim.mark_most;
        wait =
            split
            ∙ ap (λ (ds : List Demand). demand_at q first ∷ ds)
            (sym (waits s ∙ waiting_same left q (cell_of (first + 1)) (suc first) (n - 1)
            (λ j b. first_cells fewer (cell_of (first + 1)) (cell_of (first + 1) + j) ∙ waiting_cells q (n - 1) (cell_of (first + 1) + j)
            ∙ cell_round q (cell_of (first + 1) + j) (suc first + j) (around first j))));
        oldest = sym (ap oldest_of split);
        mark = s.mark_is;
      }
    where
      around : (f j : ℕ) → ((f + 1) % 2048 + j) % 2048 ≡ (suc f + j) % 2048
      around f j = omega arith

  pub taken : Shorter q (taken_from q).next (taken_from q).queue
  taken = on (eqb (waiting_number q) 0) (λ t. rw t (empty_out (eqb-true _ _ t))) (λ t. rw t (one_out (eqb-false _ _ t)))

  -- cleared: none waits
  pub cleared : (is_queue (with_waiting 0 (with_mark 0 q)) ≡ true) × (waiting_in (with_waiting 0 (with_mark 0 q)) ≡ []) × (mark_in (with_waiting 0 (with_mark 0 q)) ≡ 0)
  unfolding waiting_from
  cleared =
      let s = waiting_put (mark_put (says lim) 0) 0 (omega arith) in
      (is_queue_lem s lim.first_below (omega arith) (omega arith), waits s, s.mark_is)
