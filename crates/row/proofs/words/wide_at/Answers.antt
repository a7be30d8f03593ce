-- `wide_at` is the answer's longword: four bytes of data, of which the last is zero, and the top bits of its flags.
use Prim.Native.Nat.{◌+◌, ◌*◌}
use mathlib.Core.Path.{◌≡◌}
use native.Mathlib.Omega.{arith}
use Rattle.row.specs.model.Words.{longword_in}
use Rattle.row.proofs.WordLaws.{reply_flags, reply_top, wide_longword, longword_below}
use Rattle.row.proofs.words.wide_at.Goals as goal

pub overflow_add-result : goal.overflow_add-result
overflow_add-result c =
    let byte = c.type_inv.row in
    let row = c.args.row.now in
    let k = c.args.k in
    let last = reply_top row c.requires.1 k (omega arith) in
    let sum : c.whole_at-word.result + c.of.result ≡ longword_in row (k * 8) =
    rw (c.whole_at-word.ensures, c.of.ensures) (wide_longword row (λ i. omega (arith, byte i)) (k * 8) last) in
    omega (arith, sum, longword_below row (λ i. omega (arith, byte i)) (k * 8))

pub returns : goal.returns
returns c =
    let byte = c.type_inv.row in
    let row = c.args.row.now in
    let k = c.args.k in
    let last = reply_top row c.requires.1 k (omega arith) in
    rw (c.whole_at-word.ensures, c.of.ensures) (wide_longword row (λ i. omega (arith, byte i)) (k * 8) last)

pub of-requires : goal.of-requires
of-requires c = reply_flags c.args.row.now c.requires.1 c.args.k (omega arith)
