-- The code of a cause, by code's own type. Nothing here is a rule of document 01.
use Rattle.std.specs.Prelude.{ℕ, Option, Some, None}
use Rattle.reply.specs.declared.causes.Cause.{Cause}
use Rattle.reply.specs.declared.causes.Cause.TheVariants as cause

abbrev pub code_by : Cause → ℕ
code_by cause.Damaged = 4
code_by cause.NoQ = 7
code_by cause.NoX = 8
code_by cause.ScanLeft = 9
code_by cause.Parity = 10
code_by cause.Timeout = 11
code_by cause.NotRecognised = 12
code_by cause.NoSync = 13

-- 0 where there is no cause
abbrev pub code_or_none : Option Cause → ℕ
code_or_none (Some c) = code_by c
code_or_none None = 0
