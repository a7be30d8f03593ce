-- `steps` is `steps_of`: refused as the preparation is, or the steps of the list prepared.
use native.Mathlib.Omega.{arith}
use Rattle.step.proofs.StepLaws.{prepared_ready}
use Rattle.whole_run.proofs.SeveralReplies.{steps_passed, steps_refused, steps_prepared_lem}
use Rattle.whole_run.proofs.several.steps.Goals as goal

pub returns-in_err-plan-clause-steps : goal.returns-in_err-plan-clause-steps
returns-in_err-plan-clause-steps c =
    steps_passed _ c.from_residual.ensures.1
    (steps_refused c.args.list.now c.args.incoming.now c.args.outgoing.now c.args.row.now c.args.r _ _ c.prepare.ensures.0 c.in_err-plan.was)

pub steps_planned-requires : goal.steps_planned-requires
steps_planned-requires c =
    prepared_ready _ _ _ _ c.prepare.ensures.0 _ c.prepare.ensures.1 _ c.in_ok-plan.was (λ i. omega (arith, c.type_inv.list i)) c.prepare.array_long

pub returns-clause-steps : goal.returns-clause-steps
returns-clause-steps c =
    let x = prepared_ready _ _ _ _ c.prepare.ensures.0 _ c.prepare.ensures.1 _ c.in_ok-plan.was (λ i. omega (arith, c.type_inv.list i)) c.prepare.array_long in
    steps_prepared_lem c.args.list.now c.args.incoming.now c.args.outgoing.now c.args.row.now c.args.r
    _ _ _ x _ _ _ c.steps_planned.ensures.steps
