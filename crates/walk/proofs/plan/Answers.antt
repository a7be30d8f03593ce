-- `plan` answers as `plan_of`: the checks of the list, then the walk.
use mathlib.Core.Path.{◌≡◌, ap, ◌∙◌}
use native.Mathlib.Omega.{arith}
use Rattle.std.proofs.lemmas.Result.{err_from_is_err_and}
use Rattle.walk.proofs.PrepareLaws.{plan_listed, plan_lost, plan_ready, table_passed, planned}
use Rattle.std.specs.Result.{result_ok}
use Rattle.base.specs.declared.refusals.Fault.TheVariants.{NoHalt}
use Rattle.walk.proofs.plan.Goals as goal

pub returns-in_err-sizes : goal.returns-in_err-sizes
returns-in_err-sizes c =
    let e = err_from_is_err_and c.from_residual.result c.from_residual.ensures.1 in
    rw (e.1, e.2) (plan_listed _ _ c.check_list.ensures.0 _ c.in_err-sizes.was, tt)

pub walk-requires : goal.walk-requires
walk-requires c =
    let passed = table_passed _ _ _ _ c.in_ok-sizes.was c.check_list.ensures.1 in
    (omega (arith, passed.0), passed)

pub returns-in_err-counts : goal.returns-in_err-counts
returns-in_err-counts c =
    let e = err_from_is_err_and c.from_residual-in_err-counts.result c.from_residual-in_err-counts.ensures.1 in
    let lost = c.ok_or.ensures.ok_part ∙ ap result_ok c.in_err-counts.was in
    let none = rw lost at c.ok_or.ensures.value in
    let fault : c.in_err-counts.field-0.0 ≡ NoHalt = cc (none, c.in_err-counts.was) in
    rw (e.1, e.2, fault) (plan_lost _ _ c.check_list.ensures.0 _ c.in_ok-sizes.was _ c.walk.ensures lost, tt)

pub returns : goal.returns
returns c =
    let halted = c.ok_or.ensures.ok_part ∙ ap result_ok c.in_ok-counts.was in (
      plan_ready _ _ c.check_list.ensures.0 _ c.in_ok-sizes.was _ c.walk.ensures _ halted,
      planned _ _ _ _ c.in_ok-sizes.was c.check_list.ensures.1 _ c.walk.ensures _ halted,
    )
