-- `first_at` is `first_at`: the field lies in the list with four bytes of body at least, and its longwords passed 6 to 9.
use native.Mathlib.Omega.{arith}
use Rattle.listfile.specs.Fields.{first_at}
use Rattle.listfile.proofs.PartLaws.{camac_inside, first_passes}
use Rattle.listfile.proofs.parts.first_at.Goals as goal

pub overflow_add-at : goal.overflow_add-at
overflow_add-at c = omega (arith, camac_inside _ _ c.requires.0 c.requires.1)

pub whole_at-requires : goal.whole_at-requires
whole_at-requires c = omega (arith, camac_inside _ _ c.requires.0 c.requires.1)

pub returns : goal.returns
unfolding first_at
returns c = (c.whole_at.ensures, first_passes _ _ c.requires.0 c.requires.1 _ c.whole_at.ensures)
