-- `read_words` pads, then reads: behind the pad the words lie where they lie with it, and at least one is read, since the first is a word. The mark
-- behind them is so many widths behind the first.
use mathlib.Core.Path.{sym, ◌∙◌}
use native.Mathlib.Omega.{arith}
use Rattle.packing.proofs.MarkFacts.{mark_wide, aligned_multiple, aligned_above}
use Rattle.row.proofs.WordLaws.{first_word, aligned_words, narrow_mark, padded_words}
use Rattle.row.proofs.words.read_words.Goals as goal

pub pad-to-requires : goal.pad-to-requires
pad-to-requires c =
    omega (
      arith,
      mark_wide c.args.mark,
      aligned_words c.args.most c.args.mark c.requires.1.1.1.0 c.requires.0,
      rw c.if-wide.true at c.requires.1.1.0,
    )

pub read_wide-k-requires : goal.read_wide-k-requires
read_wide-k-requires c =
    let even = c.requires.1.1.1.0 in
    let room = rw c.if-wide.true at c.requires.1.1.0 in (
      c.requires.1.0,
      (
        omega (
          arith,
          aligned_words c.args.most c.args.mark even c.requires.0,
          aligned_above c.args.mark,
          room,
          c.pad-to.ensures.0,
          c.pad-to.auto.buffer,
        ),
        (omega (arith, aligned_multiple c.args.mark even, c.pad-to.ensures.0), c.requires.1.1.1.1.0),
      ),
    )

pub overflow_add-result : goal.overflow_add-result
overflow_add-result c =
    let e = c.read_wide-k.ensures in
    omega (
      arith,
      e.0,
      c.pad-to.ensures.0,
      aligned_words c.args.most c.args.mark c.requires.1.1.1.0 c.requires.0,
      rw c.if-wide.true at c.requires.1.1.0,
    )

pub returns-then-wide : goal.returns-then-wide
returns-then-wide c =
    let e = c.read_wide-k.ensures in
    let a = c.args in
    let even = c.requires.1.1.1.0 in
    let some = e.1.1.0 c.requires.0 (first_word a.mask a.row.now a.from c.requires.1.1.1.1.1) in (
      some,
      (
        e.0,
        (
          e.1.0,
          (
            e.1.1.1
                ∙ rw (c.pad-to.ensures.0, c.pad-to.ensures.1, c.if-wide.true)
                (padded_words a.row.now a.from a.mark _ a.incoming.now even some),
            rw (c.pad-to.ensures.0, c.if-wide.true) (sym (aligned_words _ a.mark even some)),
          ),
        ),
      ),
    )

pub read_narrow-k-requires : goal.read_narrow-k-requires
read_narrow-k-requires c =
    let room = rw c.if-wide.false at c.requires.1.1.0 in
    (c.requires.1.0, omega (arith, narrow_mark c.args.most c.args.mark, room))

pub overflow_add-result-2 : goal.overflow_add-result-2
overflow_add-result-2 c =
    omega (
      arith,
      c.read_narrow-k.ensures.0,
      narrow_mark c.args.most c.args.mark,
      rw c.if-wide.false at c.requires.1.1.0,
    )

pub returns : goal.returns
returns c =
    let e = c.read_narrow-k.ensures in
    let a = c.args in
    let some = e.1.1.0 c.requires.0 (first_word a.mask a.row.now a.from c.requires.1.1.1.1.1) in
    (some, (e.0, (e.1.0, (e.1.1.1 ∙ rw c.if-wide.false, rw c.if-wide.false (sym (narrow_mark _ a.mark))))))
