-- `read_narrow` counts words and stores them. The loop's invariant: the first k answers are words, and they lie in the buffer.
use mathlib.Core.Path.{◌≡◌, refl, sym, ◌∙◌}
use mathlib.Core.Bool.{false}
use native.Mathlib.Omega.{arith}
use Rattle.row.proofs.WordLaws.{words_none, words_more, first_passed, stored_none, narrow_more}
use Rattle.row.proofs.words.read_narrow.Goals as goal

pub loop-k-init : goal.loop-k-init
loop-k-init c =
    let a = c.args in
    (words_none a.mask a.row.now a.from, stored_none a.row.now a.from a.mark false _, refl)

pub overflow_add-from : goal.overflow_add-from
overflow_add-from c = omega arith

pub is_word_at-requires : goal.is_word_at-requires
is_word_at-requires c = omega arith

pub shape_of-incoming-then-not-is_word_at : goal.shape_of-incoming-then-not-is_word_at
shape_of-incoming-then-not-is_word_at c = c.loop-k.invariant.2

pub returns-then-not-is_word_at : goal.returns-then-not-is_word_at
returns-then-not-is_word_at c =
    let a = c.args in
    let i = c.loop-k.invariant in
    let passed = first_passed a.mask a.row.now a.from c.loop-k.k (sym c.is_word_at.ensures ∙ c.if-not-is_word_at.true) in
    (omega arith, (i.0, (λ some first. passed first, i.1)))

pub overflow_mul-k : goal.overflow_mul-k
overflow_mul-k c = omega arith

pub overflow_add-mark : goal.overflow_add-mark
overflow_add-mark c = omega arith

pub overflow_add-from-in-loop-k : goal.overflow_add-from-in-loop-k
overflow_add-from-in-loop-k c = omega arith

pub overflow_mul-from : goal.overflow_mul-from
overflow_mul-from c = omega arith

pub put_narrow-requires : goal.put_narrow-requires
put_narrow-requires c = (omega arith, omega arith)

pub loop-k-preserved : goal.loop-k-preserved
loop-k-preserved c =
    let a = c.args in
    let i = c.loop-k.invariant in (
      words_more a.mask a.row.now a.from _ i.0 (sym c.is_word_at.ensures ∙ c.if-not-is_word_at.false),
      c.put_narrow.ensures ∙ narrow_more a.row.now a.from a.mark c.loop-k.k _ _ i.1,
      c.put_narrow.auto.incoming ∙ i.2,
    )

pub shape_of-incoming : goal.shape_of-incoming
shape_of-incoming c = c.loop-k.invariant.2

pub returns : goal.returns
returns c =
    let end : c.loop-k.k ≡ c.args.most = omega arith in
    let i = c.loop-k.invariant in (omega arith, rw (sym end) (i.0, (λ some first. omega arith, i.1)))
