use Prim.Native.Nat.{◌+◌}
use mathlib.Core.Path.{refl, sym, ap, ◌∙◌}
use native.Mathlib.Omega.{arith}
use Rattle.walk.specs.model.Return.{iterate}
use Rattle.listfile.specs.model.Table.{first_fields}
use Rattle.walk.specs.model.Back.{step_spot}
use Rattle.walk.proofs.Return.{iterate_more, steps, not_met}
use Rattle.walk.proofs.Spots.{same_spot_lem, not_same}
use Rattle.walk.proofs.back.way_in.Goals as goal

pub loop-w-init : goal.loop-w-init
unfolding iterate
loop-w-init c =
    let p = c.args.p in (
      refl,
      c.after-ahead.ensures ∙ steps (step_spot (first_fields c.args.list.now c.args.count)) c.args.from p (0 + p) (omega arith),
      λ v l e. omega arith,
    )

pub returns-then-eq : goal.returns-then-eq
returns-then-eq c =
    let i = c.loop-w.invariant in
    let met = same_spot_lem _ _ (sym c.eq.ensures ∙ c.if-eq.true) in
    record { within = omega arith; again = sym i.1 ∙ sym met ∙ i.0; least = i.2 }

pub loop-w-preserved : goal.loop-w-preserved
loop-w-preserved c =
    let i = c.loop-w.invariant in (
      c.step_spot-behind.ensures ∙ ap (step_spot _) i.0 ∙ iterate_more _ _ _,
      c.step_spot-ahead.ensures ∙ ap (step_spot _) i.1 ∙ iterate_more _ _ _ ∙ steps _ _ _ _ (omega arith),
      not_met _ _ _ _ i.2 (λ e. not_same _ _ (sym c.eq.ensures ∙ c.if-eq.false) (i.0 ∙ sym e ∙ sym i.1)),
    )

pub returns : goal.returns
returns c =
    let i = c.loop-w.invariant in
    record {
      within = omega arith;
      again = c.requires.1;
      least = λ v h. i.2 v (omega arith);
    }
