-- `moved_if`: a mark within the buffer is below 2^63, as the buffer's length is.
use native.Mathlib.Omega.{arith}
use Rattle.take.proofs.HereCases.{mark_within}
use Rattle.take.proofs.moved_if.Goals as goal

pub moved_record-requires : goal.moved_record-requires
moved_record-requires c = omega (arith, mark_within c.args.c c.args.r.marks _ c.requires.0, c.well_formed)
