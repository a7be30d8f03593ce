-- `answer_in` is `answer_in`: the same bits of byte 1, and the data bytes, with a fourth that is zero.
use mathlib.Core.Path.{◌≡◌, ◌∙◌}
use native.Mathlib.Omega.{arith}
use native.Mathlib.Nat.{div-one}
use Prim.Native.Nat.{◌+◌, ◌*◌}
use lib.ListN.{get_or}
use Rattle.base.specs.Bytes.{byte_at}
use Rattle.reply.specs.Replies.{answer_in}
use Rattle.reply.proofs.replies.answer_in.Goals as goal

pub returns : goal.returns
unfolding answer_in byte_at
returns c =
    let b = c.args.bytes.now in
    let word : c.from_le_bytes.result ≡ get_or b 4 0 + get_or b 5 0 * 256 + get_or b 6 0 * 65536 = omega (arith, c.from_le_bytes.ensures) in
    simp (word, div-one)
