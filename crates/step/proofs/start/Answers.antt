-- `start` is `start_of`: refused as the preparation is, or the run from the first instruction, whose record has ended or fits.
use mathlib.Core.Path.{refl}
use native.Mathlib.Omega.{arith}
use Rattle.step.proofs.PlanLaws.{going_start}
use Rattle.step.proofs.StepLaws.{yields_passed, yields_ok, prepared_ready, start_refused, start_asked, start_yields}
use Rattle.step.proofs.start.Goals as goal

pub returns-in_err-plan-clause-yields : goal.returns-in_err-plan-clause-yields
returns-in_err-plan-clause-yields c = yields_passed _ c.from_residual.ensures.1 (start_refused _ _ _ _ c.prepare.ensures.0 _ c.in_err-plan.was)

pub run_on-first-requires : goal.run_on-first-requires
run_on-first-requires c =
    let x = prepared_ready _ _ _ _ c.prepare.ensures.0 _ c.prepare.ensures.1 _ c.in_ok-plan.was (λ i. omega (arith, c.type_inv.list i)) c.prepare.array_long in (
      omega (arith, x.entries, x.planned.few),
      (
        x.planned.few,
        (
          x.planned.right,
          rw c.first_spot.ensures (going_start _ _ _ _ _ _ x _ _ c.zero_record.ensures refl),
        ),
      ),
    )

pub yield_of-requires : goal.yield_of-requires
yield_of-requires c =
    let x = prepared_ready _ _ _ _ c.prepare.ensures.0 _ c.prepare.ensures.1 _ c.in_ok-plan.was (λ i. omega (arith, c.type_inv.list i)) c.prepare.array_long in
    start_asked _ _ _ _ _ c.args.outgoing.now x _ c.zero_record.ensures _ _
    (λ out. rw c.first_spot.ensures at (c.run_on-first.ensures.0 out))

pub returns-clause-yields : goal.returns-clause-yields
returns-clause-yields c =
    let x = prepared_ready _ _ _ _ c.prepare.ensures.0 _ c.prepare.ensures.1 _ c.in_ok-plan.was (λ i. omega (arith, c.type_inv.list i)) c.prepare.array_long in
    yields_ok c.yield_of.ensures.run c.yield_of.ensures.wanted (start_yields _ _ _ _ _ _ x _ c.zero_record.ensures _ _
    (λ out. rw c.first_spot.ensures at (c.run_on-first.ensures.0 out)))
