-- `record_of` is `record_or`: part by part the record of numbers that are narrow, else the one that fits no list.
use mathlib.Core.Path.{sym, ◌∙◌}
use native.Mathlib.Omega.{arith}
use Rattle.host.proofs.TooWide.{narrow}
use Rattle.host.proofs.numbers.record_of.Goals as goal

pub returns-then-not-is_narrow : goal.returns-then-not-is_narrow
returns-then-not-is_narrow c = rw (sym c.is_narrow.ensures ∙ c.if-not-is_narrow.true) c.zero_record.ensures

pub overflow_cast-result : goal.overflow_cast-result
overflow_cast-result c = omega (arith, (narrow c.args.n (sym c.is_narrow.ensures ∙ c.if-not-is_narrow.false)).station)

pub overflow_cast-result-2 : goal.overflow_cast-result-2
overflow_cast-result-2 c = omega (arith, (narrow c.args.n (sym c.is_narrow.ensures ∙ c.if-not-is_narrow.false)).subaddress)

pub overflow_cast-result-3 : goal.overflow_cast-result-3
overflow_cast-result-3 c = omega (arith, (narrow c.args.n (sym c.is_narrow.ensures ∙ c.if-not-is_narrow.false)).status)

pub overflow_cast-result-4 : goal.overflow_cast-result-4
overflow_cast-result-4 c = omega (arith, (narrow c.args.n (sym c.is_narrow.ensures ∙ c.if-not-is_narrow.false)).buffer)

pub returns : goal.returns
returns c = rw (sym c.is_narrow.ensures ∙ c.if-not-is_narrow.false)
