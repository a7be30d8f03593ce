use mathlib.Core.Path.{refl, ap, ◌∙◌}
use native.Mathlib.Omega.{arith}
use Rattle.walk.specs.model.Return.{iterate}
use Rattle.walk.specs.model.Back.{step_spot}
use Rattle.walk.proofs.Return.{iterate_more, steps}
use Rattle.walk.proofs.back.after.Goals as goal

pub loop-i-init : goal.loop-i-init
unfolding iterate
loop-i-init c = refl

pub loop-i-preserved : goal.loop-i-preserved
loop-i-preserved c = c.step_spot-here.ensures ∙ ap (step_spot _) c.loop-i.invariant ∙ iterate_more _ _ _

pub returns : goal.returns
returns c = c.loop-i.invariant ∙ steps _ _ _ _ (omega arith)
