-- A call by numbers is the call with their record. A record that is all zero has no words left and fits no list, so that a step of it is refused as
-- numbers that are no record's are.
use Prim.Native.Nat.{ℕ, ◌≤◌}
use mathlib.Core.Path.{◌≡◌, refl, ap}
use mathlib.Core.Bool.{Bool, true, false, ◌&&◌, and-true}
use mathlib.Core.List.{List, [], ◌∷◌}
use borrow.Author.Tests.{leb-true}
use lib.Dec.{leb, eqb}
use lib.ListN.{length, get_or}
use Rattle.base.proofs.Bools.{and_left, and_right}
use Rattle.base.proofs.Tests.{on}
use Rattle.std.specs.Prelude.{Result, Ok, Err}
use Rattle.std.specs.Prelude.{MatchResult, IsOkAnd}
use Rattle.base.specs.Refusals.{number_of, refusal_of}
use Rattle.base.specs.Refusals.{Refusal}
use Rattle.base.specs.declared.refusals.Fault.{Fault}
use Rattle.base.specs.declared.refusals.Refused.{Refused}
use Rattle.base.proofs.Faults.{number_above}
use Rattle.std.proofs.lemmas.Bool.{ne_eqb}
use native.Mathlib.Omega.{arith}
use Rattle.listfile.specs.declared.field.Instruction.{Instruction}
use Rattle.listfile.specs.declared.field.Instruction.TheVariants.{Camac, Jump, Literal, Halt}
use Rattle.packing.specs.declared.Marks.{Marks}
use Rattle.walk.specs.Walk.{Visit, on_from}
use Rattle.walk.specs.Admission.{Plan, Prepared, unfit, ready, prepare}
use Rattle.reply.specs.Effect.{State, state_of, zero_record}
use Rattle.reply.specs.declared.records.Record.{Record}
use Rattle.calls.specs.Fit.{fits_at, fits_from, fits}
use Rattle.calls.specs.Calls.{Called, refused_call, step_prepared, step_of, run_in, wanted_in, Yields, Stepping, refused_steps, steps_prepared, steps_of, steps_taken, steps_run, steps_wanted, Steps}
use Rattle.calls.specs.declared.Yield.{Yield}
use Rattle.calls.specs.declared.Stepped.{Stepped}
use Rattle.host.specs.Numbers.{call_numbers, steps_numbers, ended_in, is_narrow, Leaving, refused_by, no_record, step_by_numbers, steps_by_numbers}
use Rattle.host.specs.model.Given.{record_or, numbers_after, numbers_by, run_by}

-- `map` of a call's answer, by a closure that gives its record
pub run_mapped : {Y : Type 0} (run : Y → Record) (post : Y → Record → Type 0) (y : Result Y Refused) (z : Result Record Refused)
    → MatchResult y (λ x. IsOkAnd z (post x)) (λ e. z ≡ Err e) → ((x : Y) (v : Record) → post x v → v ≡ run x) → z ≡ run_by run y
run_mapped run post (Ok x) (Ok v) m gives = ap Ok (gives x v m)
run_mapped run post (Ok x) (Err e) m gives = absurd m
run_mapped run post (Err e) z m gives = m

-- what narrow numbers are
pub record Narrow (n : List ℕ) : Type 0 where
  pub station : get_or n 4 0 ≤ 255
  pub subaddress : get_or n 5 0 ≤ 255
  pub status : get_or n 9 0 ≤ 4294967295
  pub buffer : get_or n 10 0 ≤ 255

pub narrow : (n : List ℕ) → is_narrow n ≡ true → Narrow n
narrow n e =
    let station = leb (get_or n 4 0) 255 in
    let subaddress = leb (get_or n 5 0) 255 in
    let status = leb (get_or n 9 0) 4294967295 in
    let three = and_left ((station && subaddress) && status) (leb (get_or n 10 0) 255) e in
    let two = and_left (station && subaddress) status three in
    record {
      station = leb-true _ _ (and_left station subaddress two);
      subaddress = leb-true _ _ (and_right station subaddress two);
      status = leb-true _ _ (and_right (station && subaddress) status three);
      buffer = leb-true _ _ (and_right ((station && subaddress) && status) (leb (get_or n 10 0) 255) e);
    }

-- no words are left
zero_unfit_at : (limit worst : ℕ) (m : Marks) (v : Visit) (rest : List Visit) (i : Instruction)
    → fits_from limit worst m (record { spot = v.spot; place = v.place; instruction = i } ∷ rest) (zero_record false) ≡ false
unfolding fits_from fits_at
zero_unfit_at limit worst m v rest (Camac c) = refl
zero_unfit_at limit worst m v rest (Jump target) = refl
zero_unfit_at limit worst m v rest (Literal x) = refl
zero_unfit_at limit worst m v rest Halt = refl

zero_unfit_from : (limit worst : ℕ) (m : Marks) (vs : List Visit) → fits_from limit worst m vs (zero_record false) ≡ false
unfolding fits_from
zero_unfit_from limit worst m [] = refl
zero_unfit_from limit worst m (v ∷ rest) = zero_unfit_at limit worst m v rest v.instruction

zero_unfit : (p : Plan) → fits p (zero_record false) ≡ false
unfolding fits
zero_unfit p = zero_unfit_from _ _ _ (on_from _ p.visits)

step_unfit : (x : Prepared) (b : Bool) (reply incoming outgoing : List ℕ)
    → step_prepared x reply (state_of (zero_record b) incoming outgoing) ≡ refused_call (no_record x b) (state_of (zero_record b) incoming outgoing)
step_unfit (unfit r) b reply incoming outgoing = refl
step_unfit (ready p) true reply incoming outgoing = refl
step_unfit (ready p) false reply incoming outgoing = rw (zero_unfit p)

steps_unfit : (x : Prepared) (b : Bool) (list row incoming outgoing : List ℕ)
    → steps_prepared x list row (state_of (zero_record b) incoming outgoing) ≡ refused_steps (no_record x b) (state_of (zero_record b) incoming outgoing)
steps_unfit (unfit r) b list row incoming outgoing = refl
steps_unfit (ready p) true list row incoming outgoing = refl
steps_unfit (ready p) false list row incoming outgoing = rw (zero_unfit p)

none_both : (b : Bool) → b && false ≡ false
none_both true = refl
none_both false = refl

-- a fault's number is not 0
no_zero : (f : Fault) → eqb (number_of f) 0 ≡ false
no_zero f = ne_eqb (number_of f) 0 (λ e. omega (arith, number_above f, e))

-- what code leaves of a call
abbrev left : List ℕ → List ℕ → Refusal → State → Leaving
left given answer r s =
    record { answer = answer; run = numbers_after given r s.run; incoming = s.incoming; outgoing = s.outgoing }

module _ (list given incoming outgoing : List ℕ) where
  step_by : (reply : List ℕ) (c : Called) → c ≡ step_of list (state_of (record_or given) incoming outgoing) reply
      → left given (call_numbers c.refusal c.wanted) c.refusal c.state ≡ step_by_numbers list given incoming outgoing reply
  unfolding step_of step_by_numbers
  step_by reply c e =
      on (is_narrow given) (λ n. rw (e, n))
      (λ n. rw (n, e, n)
      (ap (λ (c : Called). refused_by given (call_numbers c.refusal c.wanted) c.state.incoming c.state.outgoing)
      (step_unfit (prepare list (length incoming) (length outgoing)) (ended_in given) reply incoming outgoing)))

  steps_by : (row : List ℕ) (x : Stepping) → x ≡ steps_of list (state_of (record_or given) incoming outgoing) row
      → left given (steps_numbers x.refusal x.taken x.wanted) x.refusal x.state ≡ steps_by_numbers list given incoming outgoing row
  unfolding steps_of steps_by_numbers
  steps_by row x e =
      on (is_narrow given) (λ n. rw (e, n))
      (λ n. rw (n, e, n)
      (ap (λ (x : Stepping). refused_by given (steps_numbers x.refusal x.taken x.wanted) x.state.incoming x.state.outgoing)
      (steps_unfit (prepare list (length incoming) (length outgoing)) (ended_in given) list row incoming outgoing)))

  -- the answer, the record's numbers and both buffers
  module _ (r : Record) (er : r ≡ record_or given) (i o answer run : List ℕ) where
    abbrev leaving : Leaving
    leaving = record { answer = answer; run = run; incoming = i; outgoing = o }

    pub step_leaves : (reply : List ℕ) (y : Result Yield Refused) → Yields (step_of list (state_of r incoming outgoing) reply) r y i o
        → answer ≡ call_numbers (refusal_of y) (wanted_in y)
        → run ≡ numbers_by given (run_by (λ (y : Yield). y.run) y) → leaving ≡ step_by_numbers list given incoming outgoing reply
    step_leaves reply y yields ea en =
        let same : numbers_by given (run_by (λ (y : Yield). y.run) y) ≡ numbers_after given (refusal_of y) (run_in r y) = call_left y in
        rw (ea, en, same, yields.refusal, yields.run, yields.wanted, yields.incoming_bytes, yields.outgoing_bytes)
        (step_by reply _ (ap (λ (r : Record). step_of list (state_of r incoming outgoing) reply) er))
      where
        call_left : (y : Result Yield Refused) → numbers_by given (run_by (λ (y : Yield). y.run) y) ≡ numbers_after given (refusal_of y) (run_in r y)
        call_left (Ok y) = rw and-true
        call_left (Err q) = rw (no_zero q.fault) (rw (none_both (is_narrow given)))

    pub steps_leave : (row : List ℕ) (y : Result Stepped Refused) → Steps (steps_of list (state_of r incoming outgoing) row) r y i o
        → answer ≡ steps_numbers (refusal_of y) (steps_taken y) (steps_wanted y)
        → run ≡ numbers_by given (run_by (λ (y : Stepped). y.run) y) → leaving ≡ steps_by_numbers list given incoming outgoing row
    steps_leave row y steps ea en =
        let same : numbers_by given (run_by (λ (y : Stepped). y.run) y) ≡ numbers_after given (refusal_of y) (steps_run r y) = steps_left y in
        rw (ea, en, same, steps.refusal, steps.taken, steps.run, steps.wanted, steps.incoming_bytes, steps.outgoing_bytes)
        (steps_by row _ (ap (λ (r : Record). steps_of list (state_of r incoming outgoing) row) er))
      where
        steps_left : (y : Result Stepped Refused) → numbers_by given (run_by (λ (y : Stepped). y.run) y) ≡ numbers_after given (refusal_of y) (steps_run r y)
        steps_left (Ok y) = rw and-true
        steps_left (Err q) = rw (no_zero q.fault) (rw (none_both (is_narrow given)))
