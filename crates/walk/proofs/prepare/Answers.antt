-- `prepare` answers as the definition of its name: the plan, then the two lengths.
use Rattle.std.proofs.lemmas.Result.{err_from_is_err_and}
use Rattle.walk.proofs.PrepareLaws.{prepare_refused, prepare_20, prepare_21, prepare_ready}
use Rattle.walk.proofs.prepare.Goals as goal

pub returns-in_err-planned : goal.returns-in_err-planned
returns-in_err-planned c =
    let e = err_from_is_err_and c.from_residual.result c.from_residual.ensures.1 in
    rw (e.1, e.2) (prepare_refused _ _ _ _ _ c.plan.ensures _ c.in_err-planned.was, tt)

pub returns-then-incoming-planned : goal.returns-then-incoming-planned
returns-then-incoming-planned c =
    rw c.from.ensures (prepare_20 _ _ _ _ _ c.plan.ensures _ c.in_ok-planned.was c.if-incoming-planned.true, tt)

pub returns-then-outgoing-planned : goal.returns-then-outgoing-planned
returns-then-outgoing-planned c =
    rw c.from-then-outgoing-planned.ensures
    (prepare_21 _ _ _ _ _ c.plan.ensures _ c.in_ok-planned.was c.if-incoming-planned.false c.if-outgoing-planned.true, tt)

pub returns : goal.returns
returns c =
    prepare_ready _ _ _ _ _ c.plan.ensures _ c.in_ok-planned.was c.if-incoming-planned.false c.if-outgoing-planned.false
