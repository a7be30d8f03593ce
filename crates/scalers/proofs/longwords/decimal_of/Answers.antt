-- `decimal_of` is the packed digits: the value and six times the sum of its quotients, each at its place.
use borrow.Author.Rules.{rules}
use native.Mathlib.Omega.{arith}
use Rattle.scalers.proofs.Sums.{decimal_below}
use Rattle.scalers.proofs.Bad.{value_below, decimal_fits, decimal_converted}
use Rattle.scalers.proofs.longwords.decimal_of.Goals as goal

pub overflow_mul-result : goal.overflow_mul-result
overflow_mul-result c = omega (arith, decimal_below _ (value_below c.args.w (search rules) c.requires))

pub overflow_add-result : goal.overflow_add-result
overflow_add-result c = record { fits = decimal_fits c.args.w (search rules) c.requires }

pub returns : goal.returns
returns c = decimal_converted c.args.w (search rules) c.requires
