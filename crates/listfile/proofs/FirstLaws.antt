-- The first field's checks by their places, and what a first field that passes shows: it is seven bytes, and R is at least 1.
use Prim.Native.Nat.{ℕ, suc, ◌≤◌}
use mathlib.Core.Path.{◌≡◌, sym}
use mathlib.Core.List.{List}
use native.Mathlib.Omega.{arith}
use borrow.Author.Tests.{ne_eqb, le-ltb, ltb-false, eqb-true, not-false}
use lib.ListN.{length, drop}
use Rattle.base.specs.Bytes.{short_at}
use Rattle.base.proofs.Checks.{passed, FirstAt, number_at, first_at_lem}
use Rattle.listfile.specs.Fields.{body_length, next_field, first_checks, first_fault}

pub first_by : (list : List ℕ) (k : ℕ) → FirstAt k (first_checks list) → number_at k (first_checks list) ≡ first_fault list
unfolding first_fault
first_by list k h = sym (first_at_lem k (first_checks list) h)

-- where the first field lies in the list, the checks behind the first three decide
pub first_inside : (list : List ℕ) (k : ℕ) → next_field list 0 ≤ length list → FirstAt k (drop 3 (first_checks list))
    → number_at k (drop 3 (first_checks list)) ≡ first_fault list
first_inside list k h f =
    first_by list (suc (suc (suc k)))
    (ne_eqb (length list) 0 (λ e. omega arith), (le-ltb (length list) 3 (omega arith), (le-ltb (length list) (next_field list 0) h, f)))

pub first_long : (list : List ℕ) → first_fault list ≡ 0 → 7 ≤ length list
unfolding first_fault
first_long list e =
    let c = passed (first_checks list) (omega arith) e in
    omega (arith, ltb-false (length list) (next_field list 0) c.1.1.0, eqb-true (body_length list 0) 4 (not-false _ c.1.1.1.0))

pub first_limit : (list : List ℕ) → first_fault list ≡ 0 → 1 ≤ short_at list 5
unfolding first_fault
first_limit list e = ltb-false (short_at list 5) 1 (passed (first_checks list) (omega arith) e).1.1.1.1.0
