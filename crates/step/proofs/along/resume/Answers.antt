-- `resume` is `resumed`: the record as it is, or `run_on` from the next instruction, which is on the walk.
use native.Mathlib.Omega.{arith}
use Rattle.walk.specs.model.Sums.{rest_from}
use Rattle.step.proofs.Onward.{within, through_going, resumed_kept, resumed_through}
use Rattle.step.proofs.along.resume.Goals as goal

pub spot_after-requires : goal.spot_after-requires
spot_after-requires c =
    omega (
      arith,
      within _ _ _ (through_going _ _ _ _ _ c.in-Through.is c.requires.1.1.1).on,
      c.requires.1.0,
    )

pub run_on-requires : goal.run_on-requires
run_on-requires c =
    let p = c.requires in
    (p.0, (p.1.0, (p.1.1.0, rw c.spot_after.ensures (through_going _ _ _ _ _ c.in-Through.is p.1.1.1))))

pub returns-in-Same : goal.returns-in-Same
returns-in-Same c = λ out. resumed_kept (rest_from c.args.list.now c.args.count) _ _ _ out (c.in-Same.is)

pub returns-in-Through : goal.returns-in-Through
returns-in-Through c =
    λ out. resumed_through (rest_from c.args.list.now c.args.count) _ _ c.args.incoming.now out
    c.in-Through.is _ (rw c.spot_after.ensures at (c.run_on.ensures.0 out))
