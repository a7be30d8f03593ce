-- `second_at` is `second_at`: the length that is tested is `body_length`.
use borrow.Author.Tests.{eq-eqb, ne_eqb}
use Rattle.listfile.specs.Fields.{second_at}
use Rattle.listfile.proofs.field.second_at.Goals as goal

pub returns-then-short_at-eq8 : goal.returns-then-short_at-eq8
unfolding second_at
returns-then-short_at-eq8 c = simp (← c.short_at.ensures.0, eq-eqb _ _ c.if-short_at-eq8.true, c.long_at.ensures)

pub returns : goal.returns
unfolding second_at
returns c = simp (← c.short_at.ensures.0, ne_eqb _ _ c.if-short_at-eq8.false)
