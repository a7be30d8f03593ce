-- `put_long` meets its contract: the two bytes of each half, the high half two bytes on, are one `sets`.
use mathlib.Core.Path.{◌∙◌}
use native.Mathlib.Nat.{div-div-eq-div-mul}
use native.Mathlib.Numerals.{add-two}
use Rattle.base.proofs.bytes.put_long.Goals as goal

pub returns : goal.returns
returns c =
    c.put_short-2.ensures
    ∙ simp (c.put_short.ensures, add-two, div-div-eq-div-mul)
