-- `gathered` turns the gathered flags into status bits once: the status bits of an OR are the OR of the status bits.
use Prim.Native.Nat.{ℕ, ◌/◌, ◌%◌}
use mathlib.Core.Path.{ap, ◌∙◌}
use native.Mathlib.Omega.{arith}
use Rattle.row.specs.model.Words.{raised_bits}
use Rattle.row.proofs.GatherLaws.{gathered_raised}
use Rattle.row.proofs.reading.gathered.Goals as goal

pub returns : goal.returns
returns c =
    let a = c.args in
    let byte = c.type_inv.row in
    c.raised_bits.ensures
    ∙ ap (λ (b : ℕ). raised_bits (b / 256 % 64)) c.any_bits.ensures
    ∙ gathered_raised a.row.now (λ i. omega (arith, byte i)) a.from _
