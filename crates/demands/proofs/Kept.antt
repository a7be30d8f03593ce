-- Kept, call by call: what is gone by a call and what waits after it is what waited before it and what it brought that stays. So it is over every list of
-- calls, and the queue keeps its limits throughout, so that no call is refused for the queue.
use Prim.Native.Nat.{ℕ, ◌%◌}
use mathlib.Core.Path.{◌≡◌, refl, sym, ap, ◌∙◌, subst}
use mathlib.Core.Bool.{Bool, true, false, ◌&&◌}
use mathlib.Core.List.{List, [], ◌∷◌, ◌++◌, append-nil, append_assoc}
use lib.Dec.{eqb}
use lib.ListN.{length}
use Rattle.base.specs.Bytes.{byte_at, short_at}
use Rattle.std.specs.Prelude.{Option, None, if◌then◌else◌}
use Rattle.base.specs.Refusals.{refusal}
use Rattle.base.proofs.Bools.{and_left, and_right, both}
use Rattle.base.proofs.Tests.{on, true_not_false}
use Rattle.demands.specs.declared.Demand.{Demand}
use Rattle.demands.specs.Demands.{first_in, waiting_number, mark_in, is_queue, waiting_from, waiting_in, is_crate, are_crates, is_row, demands_in, added_to, added_all, taken_from, Outcome, leaving, refusing, add_of, row_of, take_of, clear_of}
use Rattle.demands.specs.Kept.{Call, Add, AddRow, Take, Clear, outcome_of, is_accepted, after, empty, is_good, staying, dropped, staying_by, staying_over, yielded, gone_by, gone_over, lost_by, lost_over, mark_for, EachAccepted, each_added, oldest_of, Kept}
use Rattle.demands.proofs.CallLaws.{add_left, take_left}
use Rattle.demands.proofs.WaitingLaws.{length_waiting, Added, added_one, added_all_lem, taken, cleared}

counted : (q : List ℕ) → length (waiting_in q) ≡ waiting_number q
counted q = length_waiting q (first_in q) (waiting_number q)

-- A call -----------------------------------------------------------------------------------------------------------------

-- what demands that a call brings come to
record Came (q : List ℕ) (ds : List Demand) (good : Bool) (o : Outcome) : Type 0 where
  pub queue : is_queue o.queue ≡ true
  pub wait : waiting_in o.queue ≡ waiting_in q ++ staying (length (waiting_in q)) (if is_accepted o then ds else [])
  pub mark : (lost : List Demand) → mark_in q ≡ mark_for lost
      → mark_in o.queue ≡ mark_for (lost ++ dropped (length (waiting_in q)) (if is_accepted o then ds else []))
  pub good_only : is_accepted o ≡ good

came : {q q' : List ℕ} {ds : List Demand} → is_queue q ≡ true → Added q ds q' → (good : Bool) → Came q ds good (if good then leaving None q' else refusing q)
unfolding staying dropped
came {q = q} e a true = record { queue = a.queue; wait = rw (counted q) a.wait; mark = λ lost g. rw (counted q) (a.mark lost g); good_only = refl }
came {q = q} e a false = record {
  queue = e;
  wait = sym (append-nil (waiting_in q));
  mark = λ lost g. g ∙ ap mark_for (sym (append-nil lost));
  good_only = refl;
}

-- what a call with a queue comes to
record Keeps (q : List ℕ) (c : Call) : Type 0 where
  pub queue : is_queue (outcome_of q c).queue ≡ true
  pub wait : gone_by q c ++ waiting_in (outcome_of q c).queue ≡ waiting_in q ++ staying_by q c
  pub mark : (lost : List Demand) → mark_in q ≡ mark_for lost → mark_in (outcome_of q c).queue ≡ mark_for (lost_by q lost c)
  pub good_only : is_accepted (outcome_of q c) ≡ is_good c

module _ (q : List ℕ) (e : is_queue q ≡ true) where
  add_is : (d : Demand) → add_of q d ≡ (if is_crate d.crate_number then leaving None (added_to q d) else refusing q)
  unfolding add_of
  add_is d = rw e

  row_is : (row : List ℕ) → row_of q row ≡ (if is_row row then leaving None (added_all q (demands_in row)) else refusing q)
  unfolding row_of
  row_is row = rw e

  taken_accepted : is_accepted (taken_from q) ≡ true
  taken_accepted = on (eqb (waiting_number q) 0) (λ t. rw t) (λ t. rw t)

  takes_oldest : (take_of q).next ≡ oldest_of (waiting_in q)
  takes_oldest = ap (λ (o : Outcome). o.next) (take_left q e) ∙ (taken q e).oldest

  keeps : (c : Call) → Keeps q c
  unfolding staying clear_of
  keeps (Add d) =
      let k = subst (Came q (d ∷ []) (is_crate d.crate_number)) (sym (add_is d)) (came e (added_one q e d) (is_crate d.crate_number)) in
      record { queue = k.queue; wait = k.wait; mark = k.mark; good_only = k.good_only }
  keeps (AddRow row) =
      let k = subst (Came q (demands_in row) (is_row row)) (sym (row_is row)) (came e (added_all_lem q (demands_in row) e) (is_row row)) in
      record { queue = k.queue; wait = k.wait; mark = k.mark; good_only = k.good_only }
  keeps Take =
      let t = taken q e in
      record {
        queue = ap (λ (o : Outcome). is_queue o.queue) (take_left q e) ∙ t.queue;
        wait = ap (λ (o : Outcome). yielded o.next ++ waiting_in o.queue) (take_left q e) ∙ sym t.wait ∙ sym (append-nil (waiting_in q));
        mark = λ lost g. ap (λ (o : Outcome). mark_in o.queue) (take_left q e) ∙ t.mark ∙ g;
        good_only = ap is_accepted (take_left q e) ∙ taken_accepted;
      }
  keeps Clear =
      let c = cleared q e in
      record {
        queue = rw e c.0;
        wait = rw e (ap (λ (ds : List Demand). waiting_in q ++ ds) c.1);
        mark = λ lost g. rw e c.2;
        good_only = rw e;
      }

-- Lists of calls ---------------------------------------------------------------------------------------------------------

after_queue : (q : List ℕ) (cs : List Call) → is_queue q ≡ true → is_queue (after q cs) ≡ true
unfolding after
after_queue q [] e = e
after_queue q (c ∷ cs) e = after_queue (outcome_of q c).queue cs (keeps q e c).queue

after_waits : (q : List ℕ) (cs : List Call) → is_queue q ≡ true → gone_over q cs ++ waiting_in (after q cs) ≡ waiting_in q ++ staying_over q cs
unfolding after gone_over staying_over
after_waits q [] e = sym (append-nil (waiting_in q))
after_waits q (c ∷ cs) e =
    let next = (outcome_of q c).queue in
    append_assoc (gone_by q c) (gone_over next cs) (waiting_in (after next cs))
    ∙ ap (λ (ds : List Demand). gone_by q c ++ ds) (after_waits next cs (keeps q e c).queue)
    ∙ sym (append_assoc (gone_by q c) (waiting_in next) (staying_over next cs))
    ∙ ap (λ (ds : List Demand). ds ++ staying_over next cs) (keeps q e c).wait
    ∙ append_assoc (waiting_in q) (staying_by q c) (staying_over next cs)

after_mark : (q : List ℕ) (lost : List Demand) (cs : List Call) → is_queue q ≡ true → mark_in q ≡ mark_for lost → mark_in (after q cs) ≡ mark_for (lost_over q lost cs)
unfolding after lost_over
after_mark q lost [] e g = g
after_mark q lost (c ∷ cs) e g = after_mark (outcome_of q c).queue (lost_by q lost c) cs (keeps q e c).queue ((keeps q e c).mark lost g)

-- From empty -------------------------------------------------------------------------------------------------------------

empty_queue : is_queue empty ≡ true
unfolding is_queue byte_at short_at empty
empty_queue = refl

empty_waits : waiting_in empty ≡ []
unfolding waiting_from byte_at short_at empty
empty_waits = refl

empty_mark : mark_in empty ≡ 0
unfolding byte_at empty
empty_mark = refl

-- Any bytes --------------------------------------------------------------------------------------------------------------

-- of an outcome that is refused or leaves a queue
record Answered (q : List ℕ) (o : Outcome) : Type 0 where
  pub counts : is_accepted o ≡ true → o.queued.waiting ≡ length (waiting_in o.queue)
  pub refused : is_accepted o ≡ false → (o.queue ≡ q) × (o.queued.refusal ≡ refusal 25)

left : {q q' : List ℕ} {next : Option Demand} → Answered q (leaving next q')
left {q' = q'} = record { counts = λ t. sym (counted q'); refused = λ t. absurd (true_not_false t) }

unchanged : {q : List ℕ} → Answered q (refusing q)
unchanged = record { counts = λ t. absurd (true_not_false (sym t)); refused = λ t. (refl, refl) }

answered : (q : List ℕ) (c : Call) → Answered q (outcome_of q c)
unfolding add_of row_of take_of clear_of
answered q (Add d) = on (is_queue q && is_crate d.crate_number) (λ t. rw t left) (λ t. rw t unchanged)
answered q (AddRow row) = on (is_queue q && is_row row) (λ t. rw t left) (λ t. rw t unchanged)
answered q Take = on (is_queue q) (λ t. rw t (on (eqb (waiting_number q) 0) (λ n. rw n left) (λ n. rw n left))) (λ t. rw t unchanged)
answered q Clear = on (is_queue q) (λ t. rw t left) (λ t. rw t unchanged)

-- A row, and its demands singly ------------------------------------------------------------------------------------------

singly : (q : List ℕ) (ds : List Demand) → is_queue q ≡ true → are_crates ds ≡ true → EachAccepted q ds × (added_all q ds ≡ each_added q ds)
unfolding added_all
singly q [] e g = (tt, refl)
singly q (d ∷ ds) e g =
    let one = add_left q d (both e (and_left (is_crate d.crate_number) (are_crates ds) g)) in
    let others = singly (added_to q d) ds (added_one q e d).queue (and_right (is_crate d.crate_number) (are_crates ds) g) in
    ((ap is_accepted one, subst (λ (o : Outcome). EachAccepted o.queue ds) (sym one) others.0), others.1 ∙ ap (λ (o : Outcome). each_added o.queue ds) (sym one))

row_singly : (q row : List ℕ) → is_accepted (row_of q row) ≡ true → EachAccepted q (demands_in row) × ((row_of q row).queue ≡ each_added q (demands_in row))
unfolding row_of is_row
row_singly q row a =
    on (is_queue q && is_row row)
    (λ t. let e = and_left (is_queue q) (is_row row) t in
    let g = and_right (eqb (length row % 2) 0) (are_crates (demands_in row)) (and_right (is_queue q) (is_row row) t) in
    let s = singly q (demands_in row) e g in
    (s.0, rw t s.1))
    (λ t. absurd (true_not_false (sym a ∙ rw t)))

pub kept : Kept
kept = record {
  kept = λ cs. after_waits empty cs empty_queue ∙ ap (λ (ds : List Demand). ds ++ staying_over empty cs) empty_waits;
  takes = λ cs. takes_oldest (after empty cs) (after_queue empty cs empty_queue);
  mark = λ cs. after_mark empty [] cs empty_queue empty_mark;
  accepts = λ cs c. (keeps (after empty cs) (after_queue empty cs empty_queue) c).good_only;
  counts = λ q c. (answered q c).counts;
  row = row_singly;
  refused = λ q c. (answered q c).refused;
}
