-- `step_planned` is `step_prepared`: each return is one case of 24, 23, 22 and the reply taken.
use mathlib.Core.Path.{sym, ap, ◌∙◌}
use native.Mathlib.Omega.{arith}
use Rattle.reply.specs.model.Decoded.{formed_by}
use Rattle.step.proofs.PlanLaws.{prepared_planned}
use Rattle.step.proofs.Search.{alive_by}
use Rattle.step.proofs.StepLaws.{took, yields_ok, step_ready, step_going, step_asked, step_yields}
use Rattle.step.proofs.step_planned.Goals as goal

pub record_fits-requires : goal.record_fits-requires
record_fits-requires c = prepared_planned _ _ _ _ _ _ c.requires

pub take_here-taken-requires : goal.take_here-taken-requires
take_here-taken-requires c =
    let alive = alive_by c.in_ok-command.ensures.ok_part c.record_fits.ensures in
    step_ready _ _ _ _ _ c.args.outgoing.now c.requires _ c.args.reply.now c.if-r.false _ alive

pub resume-next-requires : goal.resume-next-requires
resume-next-requires c =
    let alive = alive_by c.in_ok-command.ensures.ok_part c.record_fits.ensures in
    let taken = took (sym c.reply_of.ensures ∙ ap formed_by c.in_ok-answer.ensures.ok_part) c.take_here-taken.ensures.record
    c.take_here-taken.ensures.bytes c.take_here-taken.auto.incoming in
    let p = c.requires in
    let going = step_going _ _ _ _ c.args.incoming.now c.args.outgoing.now p _ c.args.reply.now c.if-r.false _ alive _ _ _ taken in
    (omega (arith, p.entries, p.planned.few), (p.planned.few, (p.planned.right, going)))

pub yield_of-requires : goal.yield_of-requires
yield_of-requires c =
    let alive = alive_by c.in_ok-command.ensures.ok_part c.record_fits.ensures in
    let taken = took (sym c.reply_of.ensures ∙ ap formed_by c.in_ok-answer.ensures.ok_part) c.take_here-taken.ensures.record
    c.take_here-taken.ensures.bytes c.take_here-taken.auto.incoming in
    step_asked _ _ _ _ c.args.incoming.now c.args.outgoing.now c.requires _ c.args.reply.now c.if-r.false _ alive _ _ _ taken _ _
    c.resume-next.ensures

pub returns-clause-yields : goal.returns-clause-yields
returns-clause-yields c =
    let alive = alive_by c.in_ok-command.ensures.ok_part c.record_fits.ensures in
    let taken = took (sym c.reply_of.ensures ∙ ap formed_by c.in_ok-answer.ensures.ok_part) c.take_here-taken.ensures.record
    c.take_here-taken.ensures.bytes c.take_here-taken.auto.incoming in
    yields_ok c.yield_of.ensures.run c.yield_of.ensures.wanted
    (step_yields _ _ _ _ c.args.incoming.now c.args.outgoing.now c.requires _ c.args.reply.now c.if-r.false _ alive _ _ _ taken _ _
    c.resume-next.ensures)
