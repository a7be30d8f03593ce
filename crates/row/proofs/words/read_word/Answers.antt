-- `read_word` stores the answer's longword at the mark, behind its pad; a 16-bit word has none. The mark behind it is the word's place and its width.
use mathlib.Core.Path.{sym, ◌∙◌}
use native.Mathlib.Omega.{arith}
use Rattle.packing.proofs.MarkFacts.{mark_narrow, mark_wide, aligned_above, stored_narrow}
use Rattle.row.proofs.words.read_word.Goals as goal

pub store-requires : goal.store-requires
store-requires c =
    rw c.if-wide.true at c.requires.0

pub mark_after-requires : goal.mark_after-requires
mark_after-requires c =
    omega (arith, mark_wide c.args.mark, aligned_above c.args.mark, rw c.if-wide.true at c.requires.0)

pub put_narrow-requires : goal.put_narrow-requires
put_narrow-requires c =
    (omega (arith, mark_narrow c.args.mark, rw c.if-wide.false at c.requires.0), c.requires.1.0)

pub overflow_add-result : goal.overflow_add-result
overflow_add-result c =
    omega (arith, mark_narrow c.args.mark, rw c.if-wide.false at c.requires.0)

pub returns-then-wide : goal.returns-then-wide
returns-then-wide c = (
  c.mark_after.ensures.0 ∙ rw c.if-wide.true,
  c.store.ensures ∙ rw (c.wide_at.ensures, c.if-wide.true),
)

pub returns-else-wide : goal.returns-else-wide
returns-else-wide c =
    let a = c.args in (
      rw c.if-wide.false (sym (mark_narrow _)),
      c.put_narrow.ensures ∙ rw c.if-wide.false (sym (stored_narrow _ a.mark a.incoming.now)),
    )
