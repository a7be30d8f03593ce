-- `long_at` is `long_at`: read at once where all four bytes are there; else the fourth lies past the end and is zero.
use mathlib.Core.Path.{◌≡◌}
use native.Mathlib.Omega.{arith}
use Prim.Native.Nat.{◌+◌}
use lib.ListN.{get_or, get_or-eq_default}
use Rattle.base.specs.Bytes.{byte_at}
use Rattle.base.proofs.Past.{long_whole}
use Rattle.base.proofs.bytes.long_at.Goals as goal

pub returns : goal.returns
unfolding byte_at
returns c =
    let l = c.args.bytes.now in
    let i = c.args.i in
    let past : get_or l (i + 3) 0 ≡ 0 = get_or-eq_default l 0 (omega arith) in
    omega (arith, past, long_whole l i, c.from_le_bytes.ensures, c.byte_at.ensures, c.byte_at-2.ensures, c.byte_at-3.ensures)
