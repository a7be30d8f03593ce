-- `bad_jump` finds what `check_jumps` finds: where no jump leads past the last instruction there is none.
use Rattle.listfile.proofs.PassLaws.{jumps_within}
use Rattle.listfile.proofs.check.bad_jump.Goals as goal

pub returns-then-extent : goal.returns-then-extent
returns-then-extent c = jumps_within _ _ _ _ c.requires.1.1 c.if-extent.true
