use mathlib.Core.Path.{refl, sym, ap, ◌∙◌}
use native.Mathlib.Omega.{arith}
use Rattle.walk.specs.model.Return.{iterate}
use Rattle.walk.specs.model.Back.{step_spot}
use Rattle.walk.proofs.Return.{iterate_more, not_yet, period_found}
use Rattle.walk.proofs.Spots.{same_spot_lem, not_same}
use Rattle.walk.proofs.back.period.Goals as goal

pub loop-p-init : goal.loop-p-init
unfolding iterate
loop-p-init c = (refl, λ q h l e. omega arith)

pub returns-then-eq : goal.returns-then-eq
returns-then-eq c =
    let i = c.loop-p.invariant in
    let here = c.step_spot-here.ensures ∙ ap (step_spot _) i.0 ∙ iterate_more _ _ _ in
    period_found _ _ _ _ (omega arith) (sym here ∙ same_spot_lem _ _ (sym c.eq.ensures ∙ c.if-eq.true)) i.1

pub loop-p-preserved : goal.loop-p-preserved
loop-p-preserved c =
    let i = c.loop-p.invariant in
    let here = c.step_spot-here.ensures ∙ ap (step_spot _) i.0 ∙ iterate_more _ _ _ in
    (here, not_yet _ _ _ i.1 (λ e. not_same _ _ (sym c.eq.ensures ∙ c.if-eq.false) (here ∙ e)))

pub returns : goal.returns
returns c = λ q h l e. c.loop-p.invariant.1 q h (omega arith) e
