-- `any_bits` gathers the bits of replies. The loop's invariant: it has those of the replies passed.
use Prim.Native.Nat.{ℕ}
use mathlib.Core.Path.{◌≡◌, ap, ◌∙◌}
use native.Mathlib.Omega.{arith}
use lib.Bits.{bit_or, bit_xor}
use Rattle.row.proofs.BitLaws.{over_none, over_more}
use Rattle.row.proofs.reading.any_bits.Goals as goal

pub loop-k-init : goal.loop-k-init
loop-k-init g c = let a = c.args in over_none g.row.NEGATED a.row.now a.from

pub loop-k-preserved : goal.loop-k-preserved
loop-k-preserved g c =
    let a = c.args in
    ap (λ (q : ℕ). bit_or c.loop-k.bits (bit_xor q g.row.NEGATED)) c.quad_at.ensures
    ∙ over_more g.row.NEGATED a.row.now a.from c.loop-k.k c.loop-k.bits (omega arith) c.loop-k.invariant

pub returns : goal.returns
returns g c =
    let a = c.args in
    let end : c.loop-k.k ≡ a.to = omega arith in c.loop-k.invariant ∙ rw end
