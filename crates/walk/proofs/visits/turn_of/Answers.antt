-- `turn_of` is `turn_of`, arm by arm.
use mathlib.Core.Path.{subst}
use Rattle.listfile.specs.declared.field.Instruction.{Instruction}
use Rattle.walk.specs.model.Sums.{FewWords}
use Rattle.walk.proofs.visits.turn_of.Goals as goal

pub after_command-requires : goal.after_command-requires
after_command-requires c = (
  c.requires.0,
  (
    subst (λ (x : Instruction). FewWords x) c.in-Camac.is c.requires.1.0,
    c.requires.1.1.1,
  ),
)
