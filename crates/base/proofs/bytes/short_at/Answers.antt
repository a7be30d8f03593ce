-- `short_at` is `short_at`: `pair_at` where both bytes are there; past the end they are zero.
use borrow.Author.Rules.{rules}
use mathlib.Core.Path.{sym, ◌∙◌}
use native.Mathlib.Omega.{arith}
use Rattle.base.specs.Bytes.{byte_at}
use Rattle.base.proofs.Past.{short_past, short_one}
use Rattle.base.proofs.bytes.short_at.Goals as goal

pub returns-then-bytes-i : goal.returns-then-bytes-i
returns-then-bytes-i c = (sym (short_past _ _ c.if-bytes-i.true), search rules)

pub returns-then-bytes-i-lt2 : goal.returns-then-bytes-i-lt2
unfolding byte_at
returns-then-bytes-i-lt2 c = (c.from.ensures ∙ sym (short_one _ _ (omega arith)), omega arith)
