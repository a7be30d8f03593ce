use native.Mathlib.Omega.{arith}
use Rattle.walk.proofs.Return.{nothing_found, comes_again, found, differ_fewer}
use Rattle.walk.proofs.back.first_return.Goals as goal

pub returns-in_err-p : goal.returns-in_err-p
returns-in_err-p c =
    let none = rw c.in_err-p.was at c.period.ensures in
    rw c.from_residual.ensures (nothing_found _ _ _ _ c.after-spot.ensures none)

pub way_in-w-requires : goal.way_in-w-requires
way_in-w-requires c =
    let p = rw c.in_ok-p.was at c.period.ensures in
    (c.requires, comes_again _ _ _ _ c.after-spot.ensures p.1)

pub overflow_sub-most : goal.overflow_sub-most
overflow_sub-most c = let p = rw c.in_ok-p.was at c.period.ensures in omega (arith, p.0)

pub returns-then-most-p : goal.returns-then-most-p
returns-then-most-p c =
    let p = rw c.in_ok-p.was at c.period.ensures in
    let r = found _ _ _ _ c.after-spot.ensures p.1 c.way_in-w.ensures in
    differ_fewer _ _ _ _ (omega arith) r.different

pub overflow_add-result : goal.overflow_add-result
overflow_add-result c = let p = rw c.in_ok-p.was at c.period.ensures in omega (arith, p.0)

pub returns : goal.returns
returns c =
    let p = rw c.in_ok-p.was at c.period.ensures in
    (omega arith, found _ _ _ _ c.after-spot.ensures p.1 c.way_in-w.ensures)
