-- `read_wide` counts words and stores them, two by two, then the last of an odd number. The loop's invariant: the first k answers are words, and they
-- lie in the buffer; no word has a pad, since the first has none.
use Prim.Native.Nat.{ℕ}
use mathlib.Core.Path.{refl, sym, ◌∙◌, subst}
use native.Mathlib.Omega.{arith}
use Rattle.row.proofs.WordLaws.{first_passed, WideRead, wide_none, wide_taken, wide_left}
use Rattle.row.proofs.words.read_wide.Goals as goal

pub loop-k-init : goal.loop-k-init
loop-k-init c =
    let a = c.args in
    (omega arith, wide_none a.mask a.row.now a.from a.mark _, refl)

pub overflow_add-k : goal.overflow_add-k
overflow_add-k c = omega arith

pub overflow_mul-k : goal.overflow_mul-k
overflow_mul-k c = omega arith

pub overflow_add-mark : goal.overflow_add-mark
overflow_add-mark c = omega arith

pub overflow_add-from : goal.overflow_add-from
overflow_add-from c = omega arith

pub take_wide-requires : goal.take_wide-requires
take_wide-requires c =
    let p = c.requires in
    (omega (arith, c.loop-k.invariant.2), (omega arith, p.1.1.1))

pub shape_of-incoming-then-not-take_wide : goal.shape_of-incoming-then-not-take_wide
shape_of-incoming-then-not-take_wide c = c.take_wide.auto.incoming ∙ c.loop-k.invariant.2

pub returns-then-not-take_wide : goal.returns-then-not-take_wide
returns-then-not-take_wide c =
    let a = c.args in
    let i = c.loop-k.invariant in
    let t = c.take_wide.ensures in
    let stopped = c.if-not-take_wide.true in
    let r = wide_left i.1 t stopped in
    (i.0, (r.words, (λ some first. first_passed a.mask a.row.now a.from c.loop-k.k (sym t.0 ∙ stopped) first, r.bytes)))

pub overflow_add-next : goal.overflow_add-next
overflow_add-next c = omega arith

pub overflow_mul-next : goal.overflow_mul-next
overflow_mul-next c = omega arith

pub overflow_add-mark-in-loop-k : goal.overflow_add-mark-in-loop-k
overflow_add-mark-in-loop-k c = omega arith

pub overflow_add-from-in-loop-k : goal.overflow_add-from-in-loop-k
overflow_add-from-in-loop-k c = omega arith

pub take_wide-requires-in-loop-k : goal.take_wide-requires-in-loop-k
take_wide-requires-in-loop-k c =
    let p = c.requires in
    (omega (arith, c.loop-k.invariant.2, c.take_wide.auto.incoming), (omega arith, p.1.1.1))

pub shape_of-incoming-then-not-take_wide-2 : goal.shape_of-incoming-then-not-take_wide-2
shape_of-incoming-then-not-take_wide-2 c =
    c.take_wide-in-loop-k.auto.incoming ∙ c.take_wide.auto.incoming ∙ c.loop-k.invariant.2

pub returns-then-not-take_wide-2 : goal.returns-then-not-take_wide-2
returns-then-not-take_wide-2 c =
    let one = wide_taken c.loop-k.invariant.1 c.take_wide.ensures c.requires.1.1.0 c.if-not-take_wide.false in
    let r = wide_left one c.take_wide-in-loop-k.ensures (c.if-not-take_wide-2.true) in
    (omega (arith, c.loop-k-test.true), (r.words, (λ some first. omega arith, r.bytes)))

pub overflow_add-k-in-loop-k : goal.overflow_add-k-in-loop-k
overflow_add-k-in-loop-k c = omega arith

pub loop-k-smaller : goal.loop-k-smaller
loop-k-smaller c = omega arith

pub loop-k-preserved : goal.loop-k-preserved
loop-k-preserved c =
    let one = wide_taken c.loop-k.invariant.1 c.take_wide.ensures c.requires.1.1.0 c.if-not-take_wide.false in
    let two = wide_taken one c.take_wide-in-loop-k.ensures c.requires.1.1.0 (c.if-not-take_wide-2.false) in (
      omega (arith, c.loop-k-test.true),
      subst (λ (n : ℕ). WideRead c.args.mask c.args.row.now c.args.from c.args.mark c.args.incoming.now n c.take_wide-in-loop-k.new.incoming) (omega arith) two,
      c.take_wide-in-loop-k.auto.incoming ∙ c.take_wide.auto.incoming ∙ c.loop-k.invariant.2,
    )

pub shape_of-incoming-then-most-k : goal.shape_of-incoming-then-most-k
shape_of-incoming-then-most-k c = c.loop-k.invariant.2

pub returns-then-most-k : goal.returns-then-most-k
returns-then-most-k c =
    let i = c.loop-k.invariant in
    (i.0, (i.1.words, (λ some first. omega arith, i.1.bytes)))

pub overflow_mul-k-2 : goal.overflow_mul-k-2
overflow_mul-k-2 c = omega arith

pub overflow_add-mark-2 : goal.overflow_add-mark-2
overflow_add-mark-2 c = omega arith

pub overflow_add-from-2 : goal.overflow_add-from-2
overflow_add-from-2 c = omega arith

pub take_wide-requires-2 : goal.take_wide-requires-2
take_wide-requires-2 c =
    let p = c.requires in
    (omega (arith, c.loop-k.invariant.2), (omega arith, p.1.1.1))

pub overflow_add-result : goal.overflow_add-result
overflow_add-result c = omega arith

pub shape_of-incoming-then-take_wide : goal.shape_of-incoming-then-take_wide
shape_of-incoming-then-take_wide c = c.take_wide-2.auto.incoming ∙ c.loop-k.invariant.2

pub returns-then-take_wide : goal.returns-then-take_wide
returns-then-take_wide c =
    let r = wide_taken c.loop-k.invariant.1 c.take_wide-2.ensures c.requires.1.1.0 c.if-take_wide.true in
    (omega arith, (r.words, (λ some first. omega arith, r.bytes)))

pub shape_of-incoming : goal.shape_of-incoming
shape_of-incoming c = c.take_wide-2.auto.incoming ∙ c.loop-k.invariant.2

pub returns : goal.returns
returns c =
    let a = c.args in
    let i = c.loop-k.invariant in
    let t = c.take_wide-2.ensures in
    let r = wide_left i.1 t c.if-take_wide.false in
    (i.0, (r.words, (λ some first. first_passed a.mask a.row.now a.from c.loop-k.k (sym t.0 ∙ c.if-take_wide.false) first, r.bytes)))
