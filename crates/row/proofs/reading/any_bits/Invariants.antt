-- `any_bits` gathers the bits of replies. The loop's invariant: it has those of the replies passed.
use Prim.Native.Nat.{◌-◌}
use mathlib.Core.Path.{◌≡◌}
use Rattle.row.specs.model.Words.{bits_over}
use Rattle.row.proofs.reading.any_bits.Given as goal

abbrev pub invariant-loop-k : goal.invariant-loop-k
invariant-loop-k g l = l.bits ≡ bits_over g.row.NEGATED l.row l.from (l.k - l.from)
