-- `arrive` is `arrived`, field by field: N and A lie side by side in the first longword.
use Rattle.whole_run.specs.model.Along.{arrived}
use Rattle.whole_run.proofs.along.arrive.Goals as goal

pub returns : goal.returns
unfolding arrived
returns c = λ second e. rw (← e, c.place_in.ensures.0 second)
