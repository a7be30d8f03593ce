-- The code's step is that over the list's fields, arm by arm: the tag tells the field's kind.
use mathlib.Core.Logic.{⊎_elim}
use mathlib.Core.Path.{refl, sym, ap, ◌∙◌, subst}
use Rattle.listfile.specs.model.Table.{instruction_by, FieldPassed}
use Rattle.walk.specs.Walk.{jump_to}
use Rattle.walk.proofs.Steps.{step_past, step_read}
use Rattle.walk.proofs.back.step_spot.Goals as goal

pub returns-then-count-k : goal.returns-then-count-k
returns-then-count-k c = step_past _ _ _ c.if-count-k.true

pub tag_in-tag-requires : goal.tag_in-tag-requires
tag_in-tag-requires c =
    let right = c.requires.right in
    subst (FieldPassed _) (sym (c.from-at.ensures ∙ right.entry _ c.if-count-k.false)) (right.passed _ c.if-count-k.false)

pub target_at-requires : goal.target_at-requires
target_at-requires c =
    let right = c.requires.right in
    (subst (FieldPassed _) (sym (c.from-at.ensures ∙ right.entry _ c.if-count-k.false)) (right.passed _ c.if-count-k.false), sym c.tag_in-tag.ensures ∙ c.in-JumpTag.is)

pub returns-in-CamacTag : goal.returns-in-CamacTag
unfolding instruction_by
returns-in-CamacTag c =
    step_read _ _ _ _ _ _ _ _ c.if-count-k.false c.requires.right c.from-at.ensures c.tag_in-tag.ensures
    c.in-CamacTag.is c.spot_after.ensures

pub returns-in-JumpTag : goal.returns-in-JumpTag
unfolding instruction_by
returns-in-JumpTag c =
    step_read _ _ _ _ _ _ _ _ c.if-count-k.false c.requires.right c.from-at.ensures c.tag_in-tag.ensures
    c.in-JumpTag.is (c.jump_to.ensures ∙ ap (λ t. jump_to t c.args.here) c.target_at.ensures)

pub returns-in-LiteralTag : goal.returns-in-LiteralTag
unfolding instruction_by
returns-in-LiteralTag c =
    step_read _ _ _ _ _ _ _ _ c.if-count-k.false c.requires.right c.from-at.ensures c.tag_in-tag.ensures
    c.in-LiteralTag.is c.spot_after-in-LiteralTag.ensures

pub returns-in-HaltTag : goal.returns-in-HaltTag
unfolding instruction_by
returns-in-HaltTag c =
    ⊎_elim (λ q. step_read _ _ _ _ _ _ _ _ c.if-count-k.false c.requires.right c.from-at.ensures c.tag_in-tag.ensures q refl)
    (λ q. step_read _ _ _ _ _ _ _ _ c.if-count-k.false c.requires.right c.from-at.ensures c.tag_in-tag.ensures q refl)
    c.in-HaltTag.is
