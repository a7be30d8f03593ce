-- `is_queue` asks for the length first, then for the parts, each of which then lies within the bytes.
use native.Mathlib.Omega.{arith}
use Rattle.base.specs.Bytes.{byte_at}
use Rattle.demands.proofs.LayoutLaws.{no_queue, by_parts}
use Rattle.demands.proofs.queue.is_queue.Goals as goal

pub returns-then-bytes-ne4101 : goal.returns-then-bytes-ne4101
returns-then-bytes-ne4101 c = no_queue _ (λ e. omega (arith, c.if-bytes-ne4101.true))

pub returns : goal.returns
unfolding byte_at
returns c = rw (c.pair_at.ensures.0, c.pair_at-2.ensures.0) (by_parts _ c.if-bytes-ne4101.false)
