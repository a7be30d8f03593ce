-- `queued` reads how many wait, and the mark.
use Rattle.base.specs.Bytes.{byte_at}
use Rattle.demands.proofs.queue.Queue.queued.Goals as goal

pub returns : goal.returns
unfolding byte_at
returns c = rw c.waiting.ensures.0
