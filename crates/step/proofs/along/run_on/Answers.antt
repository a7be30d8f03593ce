-- `run_on` is `run_on` over the rest of the walk: the invariant is that from here the walk gives what it gives from `from`, with its room
-- kept; the rest of the walk grows shorter.
use mathlib.Core.Path.{refl, sym, ap, ◌∙◌}
use native.Mathlib.Omega.{arith}
use lib.ListN.{get_or}
use Rattle.listfile.specs.model.Table.{instruction_at}
use Rattle.walk.specs.declared.visits.Spot.{Spot}
use Rattle.step.proofs.Onward.{within, arrived_at, room_here, onward, arrived}
use Rattle.step.proofs.along.run_on.Goals as goal

pub loop-next-init : goal.loop-next-init
loop-next-init c = (λ out. refl, (c.requires.1.1.1, refl))

pub offset_bounds-table-at : goal.offset_bounds-table-at
offset_bounds-table-at c = omega (arith, within _ _ _ c.loop-next.invariant.1.0.on)

pub bounds-table-at : goal.bounds-table-at
bounds-table-at c =
    omega (arith, within _ _ _ c.loop-next.invariant.1.0.on, c.requires.0)

pub advance_by-requires : goal.advance_by-requires
advance_by-requires c =
    let g = c.loop-next.invariant.1.0 in (
      omega (arith, within _ _ _ g.on, c.requires.1.0),
      room_here _ _ _ _ _ _ c.requires.1.1.0 refl c.instruction_at-instruction.ensures _ _ g,
    )

pub loop-next-smaller : goal.loop-next-smaller
loop-next-smaller c =
    (onward _ _ _ _ _ _ c.requires.1.1.0 refl c.instruction_at-instruction.ensures _ _ c.loop-next.invariant.1.0 _ _ _ (sym
    c.advance_by.ensures.0 ∙ c.in-On.is) c.advance_by.ensures.1).1

pub loop-next-preserved : goal.loop-next-preserved
loop-next-preserved c =
    let w = onward _ _ _ _ _ _ c.requires.1.1.0 refl c.instruction_at-instruction.ensures _ _ c.loop-next.invariant.1.0 _
    _ _ (sym c.advance_by.ensures.0 ∙ c.in-On.is) c.advance_by.ensures.1 in
    (λ out. sym (w.2 out) ∙ c.loop-next.invariant.0 out, (w.0, c.advance_by.auto.incoming ∙ c.loop-next.invariant.1.1))

pub shape_of-incoming-in-At : goal.shape_of-incoming-in-At
shape_of-incoming-in-At c =
    c.advance_by.auto.incoming ∙ c.loop-next.invariant.1.1

pub returns-in-At : goal.returns-in-At
returns-in-At c =
    let at = sym c.advance_by.ensures.0 ∙ c.in-At.is in (
      λ out. arrived _ _ _ _ _ _ c.requires.1.1.0 refl c.instruction_at-instruction.ensures _ _ c.loop-next.invariant.1.0 _ _
          at c.advance_by.ensures.1 out ∙ c.loop-next.invariant.0 out,
      c.instruction_at-instruction.ensures
          ∙ ap (λ (k : Spot). instruction_at c.args.list.now (get_or c.args.table.now k.instruction 0)) (sym (arrived_at _ _ _ _ at)),
    )
