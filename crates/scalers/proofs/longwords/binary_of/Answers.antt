-- `binary_of` is the number of the digits, taken in pairs, under the two top bits.
use borrow.Author.Rules.{rules}
use Rattle.scalers.specs.Scalers.{converted_to}
use Rattle.scalers.proofs.Sums.{binary_sum_lem}
use Rattle.scalers.proofs.longwords.binary_of.Goals as goal

pub returns : goal.returns
unfolding converted_to
returns c = binary_sum_lem c.args.w (search rules)
