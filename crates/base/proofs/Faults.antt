-- Each fault has a number of its own above 0, so that 0 says that there is none.
use Prim.Native.Nat.{◌<◌}
use native.Mathlib.Omega.{arith}
use Rattle.base.specs.Refusals.{number_of}
use Rattle.base.specs.declared.refusals.Fault.{Fault}
use Rattle.base.specs.declared.refusals.Fault.TheVariants.{PastEnd, FirstField, UnknownTag, WrongLength, TooManyInstructions, ZeroBit, NoSuchAddress, WrongMode, WrongCount, NoSuchTarget, NoHalt, ShortIncoming, ShortOutgoing, ReplyNotFormed, RecordUnfit, RunEnded, BadDemand, BrokenRow, BadLongword}

pub number_above : (f : Fault) → 0 < number_of f
number_above PastEnd = omega arith
number_above FirstField = omega arith
number_above UnknownTag = omega arith
number_above WrongLength = omega arith
number_above TooManyInstructions = omega arith
number_above ZeroBit = omega arith
number_above NoSuchAddress = omega arith
number_above WrongMode = omega arith
number_above WrongCount = omega arith
number_above NoSuchTarget = omega arith
number_above NoHalt = omega arith
number_above ShortIncoming = omega arith
number_above ShortOutgoing = omega arith
number_above ReplyNotFormed = omega arith
number_above RecordUnfit = omega arith
number_above RunEnded = omega arith
number_above BadDemand = omega arith
number_above BrokenRow = omega arith
number_above BadLongword = omega arith
