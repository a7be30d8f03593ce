-- `whole_at` is `long_at`: the four bytes are all there, and one sum of them is the two halves'.
use mathlib.Core.Path.{sym, ◌∙◌}
use Rattle.base.specs.Bytes.{byte_at}
use Rattle.base.proofs.Past.{long_whole}
use Rattle.base.proofs.bytes.whole_at.Goals as goal

pub returns : goal.returns
unfolding byte_at
returns c = c.from_le_bytes.ensures ∙ sym (long_whole _ _)
