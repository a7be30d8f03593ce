-- `put_narrow` stores the two low bytes of the answer's longword: they are bytes 4 and 5 of the answer, whatever its Q and X.
use native.Mathlib.Omega.{arith}
use native.Mathlib.Numerals.{add-one}
use lib.ListN.{length-set}
use Rattle.row.proofs.WordLaws.{narrow_bytes}
use Rattle.row.proofs.words.put_narrow.Goals as goal

pub bounds-incoming-to-2 : goal.bounds-incoming-to-2
bounds-incoming-to-2 c = simp length-set (omega arith)

pub returns : goal.returns
returns c =
    let byte = c.type_inv.row in
    let at = c.args.at in
    let b = narrow_bytes c.args.row.now (λ i. omega (arith, byte i)) at in
    rw (b.0, b.1, add-one c.args.to)
