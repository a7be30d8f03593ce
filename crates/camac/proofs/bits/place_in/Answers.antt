-- `place_in` is N * 16 + A: A's four bits lie below N's five, and the two bits above are zero in a longword that passes.
use Prim.Native.Nat.{◌^◌, ◌<◌}
use native.Mathlib.Omega.{arith}
use Rattle.camac.specs.Words.{address_in}
use Rattle.camac.proofs.BitLaws.{command_address, passes_top}
use Rattle.camac.proofs.bits.place_in.Goals as goal

pub returns : goal.returns
unfolding address_in
returns c =
    let top : c.args.first < 2 ^ 30 = passes_top c.args.first c.requires (omega arith) in
    (λ second. rw (command_address c.args.first second) (omega arith), omega arith)
