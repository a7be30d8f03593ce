-- `is_only_nine` is `only_nine` of the causes: an answer by the law of the only cause; no other kind of reply has 9.
use Rattle.reply.proofs.CodeCases.{nine_of, only_nine_lem}
use Rattle.reply.proofs.causes.is_only_nine.Goals as goal

pub returns-in-Answered : goal.returns-in-Answered
returns-in-Answered c =
    let a = c.in-Answered.a in
    rw (c.is_damaged.ensures, c.eq.ensures, nine_of c.args.cause, c.requires, c.in-Answered.is)
    (only_nine_lem c.args.limit c.args.c c.args.r a)
