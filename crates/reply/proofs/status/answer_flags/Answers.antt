-- `answer_flags` is `flags_of` of an answer: the callees are its bits, and or-ing with no more bits changes nothing.
use lib.Bits.{or_zero_r}
use Rattle.reply.specs.Status.{flags_of}
use Rattle.reply.proofs.status.answer_flags.Goals as goal

pub returns : goal.returns
unfolding flags_of
returns c = simp or_zero_r (cc)
