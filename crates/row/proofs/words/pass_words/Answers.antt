-- `pass_words` counts words. The loop's invariant: the first k answers are words. Where it stops early, the next is none, so that a first word is
-- counted.
use mathlib.Core.Path.{sym, ◌∙◌}
use native.Mathlib.Omega.{arith}
use Rattle.row.proofs.WordLaws.{words_none, words_more, first_passed}
use Rattle.row.proofs.words.pass_words.Goals as goal

pub loop-k-init : goal.loop-k-init
loop-k-init c = let a = c.args in words_none a.mask a.row.now a.from

pub overflow_add-from : goal.overflow_add-from
overflow_add-from c = omega arith

pub is_word_at-requires : goal.is_word_at-requires
is_word_at-requires c = omega arith

pub returns-then-not-is_word_at : goal.returns-then-not-is_word_at
returns-then-not-is_word_at c =
    let a = c.args in
    let i = c.loop-k.invariant in (
      omega arith,
      (
        i,
        λ some first. first_passed a.mask a.row.now a.from _ (sym c.is_word_at.ensures ∙ c.if-not-is_word_at.true) first,
      ),
    )

pub loop-k-preserved : goal.loop-k-preserved
loop-k-preserved c =
    let a = c.args in
    words_more a.mask a.row.now a.from _ c.loop-k.invariant (sym c.is_word_at.ensures ∙ c.if-not-is_word_at.false)

pub returns : goal.returns
returns c = (omega arith, (λ j l. c.loop-k.invariant j (omega arith), λ some first. omega arith))
