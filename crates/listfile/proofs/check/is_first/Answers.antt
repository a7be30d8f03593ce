-- `is_first` is `is_first`, test by test; the seven bytes hold every place that it reads.
use mathlib.Core.Path.{refl}
use Rattle.base.specs.Bytes.{byte_at}
use Rattle.listfile.proofs.check.is_first.Goals as goal

pub returns : goal.returns
unfolding byte_at
returns c = refl
