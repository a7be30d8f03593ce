-- Refusals (document 01, "Who can cause which refusal"; 25, 31 and 32 document 02's E2 and E10).
use Rattle.std.specs.Prelude.{ℕ, ◌≡◌, Result, Ok, Err}
use Rattle.base.specs.declared.refusals.Fault.{Fault}
use Rattle.base.specs.declared.refusals.Fault.TheVariants.{PastEnd, FirstField, UnknownTag, WrongLength, TooManyInstructions, ZeroBit, NoSuchAddress, WrongMode, WrongCount, NoSuchTarget, NoHalt, ShortIncoming, ShortOutgoing, ReplyNotFormed, RecordUnfit, RunEnded, BadDemand, BrokenRow, BadLongword}
use Rattle.base.specs.declared.refusals.Refused.{Refused}

-- a refusal's number and place; number 0: not refused
pub record Refusal : Type 0 where
  pub number : ℕ
  pub place : ℕ

abbrev pub not_refused : Refusal
not_refused = record { number = 0; place = 0 }

-- "a place not named is 0"
abbrev pub refusal : ℕ → Refusal
refusal number = record { number = number; place = 0 }

-- "a definition gives this paper's number and values for each case"
abbrev pub number_of : Fault → ℕ
number_of PastEnd = 1
number_of FirstField = 2
number_of UnknownTag = 3
number_of WrongLength = 4
number_of TooManyInstructions = 5
number_of ZeroBit = 6
number_of NoSuchAddress = 7
number_of WrongMode = 8
number_of WrongCount = 9
number_of NoSuchTarget = 10
number_of NoHalt = 11
number_of ShortIncoming = 20
number_of ShortOutgoing = 21
number_of ReplyNotFormed = 22
number_of RecordUnfit = 23
number_of RunEnded = 24
number_of BadDemand = 25
number_of BrokenRow = 31
number_of BadLongword = 32

-- what a refused call is told
abbrev pub told : Refused → Refusal
told r = record { number = number_of r.fault; place = r.place }

-- the refusal of a call, or that there is none
abbrev pub refusal_of : {A : Type 0} → Result A Refused → Refusal
refusal_of (Ok x) = not_refused
refusal_of (Err r) = told r

-- a value, or the number of a fault
abbrev pub numbered : {A : Type 0} → Result A Fault → Result A ℕ
numbered (Ok x) = Ok x
numbered (Err f) = Err (number_of f)

-- the number of a fault, 0 where there is none
abbrev pub number_or_0 : {A : Type 0} → Result A Fault → ℕ
number_or_0 (Ok x) = 0
number_or_0 (Err f) = number_of f

-- a fault with no place of its own is told with place 0
abbrev pub RefusedAtZero : Fault → Refused → Type 0
RefusedAtZero f r = r ≡ record { fault = f; place = 0 }
