-- `target_at` is the two bytes of a jump's body, which lie in the list.
use native.Mathlib.Omega.{arith}
use Rattle.listfile.proofs.PartLaws.{jump_inside}
use Rattle.listfile.proofs.parts.target_at.Goals as goal

pub overflow_add-at : goal.overflow_add-at
overflow_add-at c = omega (arith, jump_inside _ _ c.requires.0 c.requires.1)

pub pair_at-requires : goal.pair_at-requires
pair_at-requires c = omega (arith, jump_inside _ _ c.requires.0 c.requires.1)
