-- `step` is `step_of`: refused as the preparation is, or the step of the list prepared.
use native.Mathlib.Omega.{arith}
use Rattle.step.proofs.StepLaws.{yields_passed, yields_by, prepared_ready, step_refused, step_prepared_lem}
use Rattle.step.proofs.step.Goals as goal

pub returns-in_err-plan-clause-yields : goal.returns-in_err-plan-clause-yields
returns-in_err-plan-clause-yields c = yields_passed _ c.from_residual.ensures.1 (step_refused _ _ _ _ c.prepare.ensures.0 _ c.in_err-plan.was _ _)

pub step_planned-requires : goal.step_planned-requires
step_planned-requires c =
    prepared_ready _ _ _ _ c.prepare.ensures.0 _ c.prepare.ensures.1 _ c.in_ok-plan.was (λ i. omega (arith, c.type_inv.list i)) c.prepare.array_long

pub returns-clause-yields : goal.returns-clause-yields
returns-clause-yields c =
    yields_by (step_prepared_lem _ _ _ _ _ _ (prepared_ready _ _ _ _ c.prepare.ensures.0 _ c.prepare.ensures.1 _ c.in_ok-plan.was
    (λ i. omega (arith, c.type_inv.list i)) c.prepare.array_long) _ _) c.step_planned.ensures.yields
