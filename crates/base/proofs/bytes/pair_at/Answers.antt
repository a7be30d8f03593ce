-- `pair_at` is `short_at`: two bytes below 256, the second 256 times.
use mathlib.Core.Path.{◌∙◌}
use native.Mathlib.Omega.{arith}
use Rattle.base.specs.Bytes.{byte_at, short_at}
use Rattle.base.proofs.bytes.pair_at.Goals as goal

pub returns : goal.returns
unfolding short_at byte_at
returns c = (c.from.ensures ∙ c.from_le_bytes.ensures, omega arith)
