-- `convert_all` converts longword by longword. The loop's invariant: what lies before is converted, and converting the rest gives the row converted whole.
use Prim.Native.Nat.{◌+◌, ◌*◌}
use mathlib.Core.Path.{◌≡◌, ap, ◌∙◌}
use native.Mathlib.Omega.{arith}
use Rattle.scalers.specs.Scalers.{is_bad}
use Rattle.scalers.proofs.Loops.{converting_passes, converting_next, converting_end}
use Rattle.scalers.proofs.rows.convert_all.Goals as goal

pub converted-requires : goal.converted-requires
converted-requires c =
    let i = c.loop-n.invariant in
    ap (is_bad _) c.whole_at-w.ensures ∙ converting_passes i (omega (arith, i.whole, i.as_long))

pub loop-n-preserved : goal.loop-n-preserved
loop-n-preserved c =
    let i = c.loop-n.invariant in
    let n = c.loop-n.n in
    let next : 4 * (n + 1) ≡ 4 * n + 4 = omega arith in
    rw next
    (converting_next i (omega (arith, i.whole, i.as_long)) c.whole_at-w.ensures c.converted.ensures c.put_long.ensures)

pub returns : goal.returns
returns c = let i = c.loop-n.invariant in converting_end i (omega (arith, i.as_long))
