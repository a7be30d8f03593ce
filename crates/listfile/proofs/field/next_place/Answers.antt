-- `next_place` is `next_field`: `short_at` reads the body's length.
use native.Mathlib.Omega.{arith}
use Rattle.listfile.proofs.field.next_place.Goals as goal

pub returns : goal.returns
returns c = omega (arith, c.short_at.ensures.0)
