-- `turn_at` is `turn_of` the field's instruction, arm by arm: the tag tells its kind, and each arm reads what that kind needs.
use mathlib.Core.Path.{sym, ◌∙◌}
use Rattle.listfile.specs.model.Table.{instruction_by, instruction_at}
use Rattle.walk.specs.model.Sums.{turn_of}
use Rattle.walk.proofs.visits.turn_at.Goals as goal

pub tag_in-tag-requires : goal.tag_in-tag-requires
tag_in-tag-requires c = rw c.from-at.ensures c.requires.1.0

pub after_field-requires : goal.after_field-requires
after_field-requires c =
    (c.requires.0, (rw c.from-at.ensures c.requires.1.0, (sym c.tag_in-tag.ensures ∙ c.in-CamacTag.is, c.requires.1.1.1)))

pub target_at-requires : goal.target_at-requires
target_at-requires c = (rw c.from-at.ensures c.requires.1.0, sym c.tag_in-tag.ensures ∙ c.in-JumpTag.is)

pub returns-in-CamacTag : goal.returns-in-CamacTag
unfolding turn_of instruction_at instruction_by
returns-in-CamacTag c = simp (← c.from-at.ensures, ← c.tag_in-tag.ensures, c.in-CamacTag.is, c.spot_after.ensures, c.after_field.ensures)

pub returns-in-JumpTag : goal.returns-in-JumpTag
unfolding turn_of instruction_at instruction_by
returns-in-JumpTag c = simp (← c.from-at.ensures, ← c.tag_in-tag.ensures, c.in-JumpTag.is, c.jump_to.ensures, c.target_at.ensures)

pub returns-in-LiteralTag : goal.returns-in-LiteralTag
unfolding turn_of instruction_at instruction_by
returns-in-LiteralTag c = simp (← c.from-at.ensures, ← c.tag_in-tag.ensures, c.in-LiteralTag.is, c.spot_after-in-LiteralTag.ensures, c.after_literal.ensures)

pub returns-in-HaltTag : goal.returns-in-HaltTag
unfolding turn_of instruction_at instruction_by
returns-in-HaltTag c = simp (← c.from-at.ensures, ← c.tag_in-tag.ensures, c.in-HaltTag.is)

pub returns-in-UnknownTag : goal.returns-in-UnknownTag
unfolding turn_of instruction_at instruction_by
returns-in-UnknownTag c = simp (← c.from-at.ensures, ← c.tag_in-tag.ensures, c.in-UnknownTag.is)
