-- `read_row` reads a row stretch by stretch. The loop's invariant: the replies passed are formed, and of them those before `answers` are answers. A row
-- that is no multiple of 8 bytes is not formed.
use Prim.Native.Nat.{◌/◌}
use native.Mathlib.Omega.{arith}
use lib.ListN.{length}
use Rattle.row.proofs.ReadLaws.{all_formed_lem, cut_unformed, on_side}
use Rattle.row.proofs.reading.read_row.Goals as goal

pub returns-then-row-ne0 : goal.returns-then-row-ne0
returns-then-row-ne0 c = cut_unformed c.args.row.now c.if-row-ne0.true

pub loop-k-init : goal.loop-k-init
loop-k-init c = (omega arith, omega arith, λ j l f. absurd (omega arith), λ j l f b. absurd (omega arith))

pub stretch_end-end-requires : goal.stretch_end-end-requires
stretch_end-end-requires c = omega arith

pub read_stretch-requires : goal.read_stretch-requires
read_stretch-requires c = (omega (arith, c.stretch_end-end.ensures.0), omega (arith, c.stretch_end-end.ensures.1))

pub loop-k-smaller : goal.loop-k-smaller
loop-k-smaller c = omega (arith, c.stretch_end-end.ensures.0, c.stretch_end-end.ensures.1)

pub loop-k-preserved : goal.loop-k-preserved
loop-k-preserved c =
    let k = c.loop-k.k in
    let i = c.loop-k.invariant in
    let e = c.in_ok-answers.ensures in (
      c.stretch_end-end.ensures.1,
      omega (arith, e.0),
      λ j l f. on_side k j (λ below. i.2 j below f) (λ above. e.1.0 j l above),
      λ j l f b. on_side k j (λ below. i.3 j below f (omega (arith, e.0))) (λ above. e.1.1 j l above b),
    )

pub returns : goal.returns
returns c =
    let row = c.args.row.now in
    let i = c.loop-k.invariant in
    record {
      formed = all_formed_lem row (length row / 8) (omega arith) (λ j l f. i.2 j (omega arith) f);
      within = omega arith;
      kinds = λ j b. i.3 j (omega arith) (omega arith) b;
    }
