-- A decoded reply in the code's Option is that in the definitions' one. Nothing here is a rule of document 01.
use Rattle.std.specs.Prelude.{Option, Some, None}
use Rattle.std.proofs.Math.Option as maybe
use Rattle.reply.specs.declared.replies.Reply.{Reply}

abbrev pub formed_by : Option Reply → maybe.Option Reply
formed_by (Some r) = maybe.some r
formed_by None = maybe.none
