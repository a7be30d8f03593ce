-- `steps_planned` is `steps_prepared`: each return is one case of 24, 23, 22 and the row's replies taken.
use mathlib.Core.Path.{◌≡◌, refl, subst}
use mathlib.Core.Logic.{inr}
use mathlib.Core.Bool.{true}
use Rattle.walk.specs.model.Sums.{plan_by}
use Rattle.calls.specs.Fit.{fits}
use Rattle.step.proofs.PlanLaws.{prepared_planned}
use Rattle.step.proofs.Search.{alive_by}
use Rattle.row.specs.model.Words.{Answered, ReadAs}
use Rattle.whole_run.proofs.SeveralReplies.{steps_ok, grounds_here, last_asked, steps_taken_lem}
use Rattle.whole_run.proofs.several.steps_planned.Goals as goal

pub record_fits-requires : goal.record_fits-requires
record_fits-requires c =
    prepared_planned _ _ _ _ _ _ c.requires

pub run_replies-last-requires : goal.run_replies-last-requires
run_replies-last-requires c =
    let fit : fits (plan_by c.args.list.now c.args.plan.sizes) c.args.r ≡ true =
    (alive_by c.in_ok-ok_or.ensures.ok_part c.record_fits.ensures).fit in
    let answered : Answered c.args.row.now c.in_ok-answers.answers =
    subst (ReadAs c.args.row.now) c.in_ok-answers.ensures.ok_part c.read_row.ensures in
    (grounds_here c.args.list.now c.args.incoming.now c.args.outgoing.now c.args.row.now c.args.r _ _ _ c.requires, (inr fit, answered))

pub wanted_at-requires : goal.wanted_at-requires
wanted_at-requires c =
    let fit : fits (plan_by c.args.list.now c.args.plan.sizes) c.args.r ≡ true =
    (alive_by c.in_ok-ok_or.ensures.ok_part c.record_fits.ensures).fit in
    let answered : Answered c.args.row.now c.in_ok-answers.answers =
    subst (ReadAs c.args.row.now) c.in_ok-answers.ensures.ok_part c.read_row.ensures in
    (last_asked c.args.list.now c.args.incoming.now c.args.outgoing.now c.args.row.now c.args.r _ _ _ c.requires c.if-r.false fit
    answered.formed _ _ _ c.run_replies-last.ensures).0

pub returns-clause-steps : goal.returns-clause-steps
returns-clause-steps c =
    let fit : fits (plan_by c.args.list.now c.args.plan.sizes) c.args.r ≡ true =
    (alive_by c.in_ok-ok_or.ensures.ok_part c.record_fits.ensures).fit in
    let answered : Answered c.args.row.now c.in_ok-answers.answers =
    subst (ReadAs c.args.row.now) c.in_ok-answers.ensures.ok_part c.read_row.ensures in
    steps_ok refl refl c.wanted_at.ensures.wanted
    (steps_taken_lem c.args.list.now c.args.incoming.now c.args.outgoing.now c.args.row.now c.args.r _ _ _ c.requires c.if-r.false fit
    answered.formed _ _ _ c.run_replies-last.ensures)

pub returns-clause-ended : goal.returns-clause-ended
returns-clause-ended c =
    let fit : fits (plan_by c.args.list.now c.args.plan.sizes) c.args.r ≡ true =
    (alive_by c.in_ok-ok_or.ensures.ok_part c.record_fits.ensures).fit in
    let answered : Answered c.args.row.now c.in_ok-answers.answers =
    subst (ReadAs c.args.row.now) c.in_ok-answers.ensures.ok_part c.read_row.ensures in
    c.wanted_at.ensures.ended
    (last_asked c.args.list.now c.args.incoming.now c.args.outgoing.now c.args.row.now c.args.r _ _ _ c.requires c.if-r.false fit
    answered.formed _ _ _ c.run_replies-last.ensures).1
