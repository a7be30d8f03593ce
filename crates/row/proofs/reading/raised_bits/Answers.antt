-- `raised_bits` is `raised_bits`, part for part; each part of the flags is at most they, so that no product wraps.
use native.Mathlib.Omega.{arith}
use lib.Bits.{and_le_l}
use Rattle.row.specs.model.Words.{raised_bits}
use Rattle.row.proofs.reading.raised_bits.Goals as goal

pub overflow_mul-result : goal.overflow_mul-result
overflow_mul-result c = omega (arith, and_le_l c.args.g 51)

pub overflow_mul-result-2 : goal.overflow_mul-result-2
overflow_mul-result-2 c = omega (arith, and_le_l c.args.g 4)

pub overflow_mul-result-3 : goal.overflow_mul-result-3
overflow_mul-result-3 c = omega (arith, and_le_l c.args.g 8)

pub returns : goal.returns
unfolding raised_bits
returns c = rw c.raised_error.ensures
