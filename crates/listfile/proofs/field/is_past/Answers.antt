-- `is_past` is the test that its contract states.
use mathlib.Core.Path.{refl}
use Rattle.listfile.proofs.field.is_past.Goals as goal

pub returns : goal.returns
returns c = refl
