-- `put_quad` meets its contract: the four bytes of each half, the high half four bytes on, are one `sets`.
use mathlib.Core.Path.{◌∙◌}
use native.Mathlib.Numerals.{add-four}
use Rattle.base.proofs.bytes.put_quad.Goals as goal

pub returns : goal.returns
returns c =
    c.put_long-2.ensures
    ∙ simp (c.put_long.ensures, add-four)
