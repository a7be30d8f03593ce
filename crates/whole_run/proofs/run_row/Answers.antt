-- `run_row` is `run_of`: refused as the preparation is, or by 22; else the start and the replies of the row.
use mathlib.Core.Path.{refl, subst}
use native.Mathlib.Omega.{arith}
use Rattle.step.proofs.PlanLaws.{going_start}
use Rattle.step.proofs.StepLaws.{prepared_ready}
use Rattle.row.specs.model.Words.{Answered, ReadAs}
use Rattle.whole_run.proofs.WholeRun.{whole_refused, grounds, whole_unformed, error_of, start_stage, whole_run}
use Rattle.whole_run.proofs.Turns.{grounds_at}
use Rattle.whole_run.proofs.run_row.Goals as goal

pub returns-in_err-plan-clause-runs : goal.returns-in_err-plan-clause-runs
returns-in_err-plan-clause-runs c =
    whole_refused _ _ c.args.outgoing.now c.args.row.now _ _ c.prepare.ensures.0 c.in_err-plan.was c.from_residual.ensures.1

pub returns-in_err-answers-clause-runs : goal.returns-in_err-answers-clause-runs
returns-in_err-answers-clause-runs c =
    let ready = prepared_ready _ _ _ _ c.prepare.ensures.0 _ c.prepare.ensures.1 _ c.in_ok-plan.was (λ i. omega (arith, c.type_inv.list i)) c.prepare.array_long in
    whole_unformed _ _ _ c.args.row.now _ _ _ ready (subst (ReadAs c.args.row.now) c.in_err-answers.ensures.ok_part c.read_row.ensures)
    c.from_residual-in_err-answers.ensures.1 (error_of _ c.in_err-answers.ensures.value c.in_err-answers.ensures.ok_part)

pub run_on-first-requires : goal.run_on-first-requires
run_on-first-requires c =
    let x = prepared_ready _ _ _ _ c.prepare.ensures.0 _ c.prepare.ensures.1 _ c.in_ok-plan.was (λ i. omega (arith, c.type_inv.list i)) c.prepare.array_long in (
      omega (arith, x.entries, x.planned.few),
      (
        x.planned.few,
        (
          x.planned.right,
          rw c.first_spot.ensures (going_start _ _ _ _ _ _ x _ _ c.zero_record.ensures refl),
        ),
      ),
    )

pub run_replies-requires : goal.run_replies-requires
run_replies-requires c =
    let ready = prepared_ready _ _ _ _ c.prepare.ensures.0 _ c.prepare.ensures.1 _ c.in_ok-plan.was (λ i. omega (arith, c.type_inv.list i)) c.prepare.array_long in
    let answered : Answered c.args.row.now c.in_ok-answers.answers =
    subst (ReadAs c.args.row.now) c.in_ok-answers.ensures.ok_part c.read_row.ensures in (
      grounds_at c.run_on-first.auto.incoming
          (grounds _ c.args.incoming.now c.args.outgoing.now c.args.row.now _ _ _ ready),
      (
        start_stage _
            c.args.incoming.now c.args.outgoing.now c.args.row.now _ _ _ ready _ _ _ c.zero_record.ensures
            (λ out. rw c.first_spot.ensures at (c.run_on-first.ensures.0 out)),
        answered,
      ),
    )

pub returns-clause-runs : goal.returns-clause-runs
returns-clause-runs c =
    let ready = prepared_ready _ _ _ _ c.prepare.ensures.0 _ c.prepare.ensures.1 _ c.in_ok-plan.was (λ i. omega (arith, c.type_inv.list i)) c.prepare.array_long in
    let answered : Answered c.args.row.now c.in_ok-answers.answers =
    subst (ReadAs c.args.row.now) c.in_ok-answers.ensures.ok_part c.read_row.ensures in
    whole_run _ _ _ c.args.row.now _ _ _ ready _ _ _ c.zero_record.ensures
    (λ out. rw c.first_spot.ensures at (c.run_on-first.ensures.0 out)) answered.formed _ _ _
    c.run_replies.ensures
