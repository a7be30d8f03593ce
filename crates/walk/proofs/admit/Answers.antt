-- `admit` is `admit_of`: `prepare` answers as the definition of its name, and a plan's counts are its sums.
use Rattle.std.proofs.lemmas.Result.{err_from_is_err_and}
use Rattle.walk.proofs.PrepareLaws.{admit_refused, admit_ready}
use Rattle.walk.proofs.admit.Goals as goal

pub returns-in_err-planned : goal.returns-in_err-planned
returns-in_err-planned c =
    let e = err_from_is_err_and c.from_residual.result c.from_residual.ensures.1 in
    rw (e.1, e.2) (admit_refused _ _ _ _ c.prepare.ensures.0 _ c.in_err-planned.was)

pub returns : goal.returns
returns c = admit_ready _ _ _ _ c.prepare.ensures.0 _ _ c.in_ok-planned.was c.prepare.ensures.1
