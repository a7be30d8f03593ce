-- `raised_error` tests TPE, LPE and ERR at once.
use borrow.Author.Tests.{eq-eqb, ne_eqb}
use Rattle.row.proofs.reading.raised_error.Goals as goal

pub returns-then-g-eq0 : goal.returns-then-g-eq0
returns-then-g-eq0 c = rw (eq-eqb _ 0 c.if-g-eq0.true)

pub returns-else-g-eq0 : goal.returns-else-g-eq0
returns-else-g-eq0 c = rw (ne_eqb _ 0 c.if-g-eq0.false)
