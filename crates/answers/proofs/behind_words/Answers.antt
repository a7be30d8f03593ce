-- `behind_words` is `after_words`, field by field.
use mathlib.Core.Path.{sym, subst}
use Rattle.answers.proofs.VisitRoom.{note_room}
use Rattle.answers.specs.model.Visit.{NoteRoom, after_words}
use Rattle.answers.proofs.behind_words.Goals as goal

pub note_behind-requires : goal.note_behind-requires
note_behind-requires c =
    subst (NoteRoom c.args.rules.direction c.args.rules.wide) (sym c.requires.1.1.1.1.1)
    (note_room c.args.rules.direction c.args.rules.wide c.args.words c.args.here.marks c.requires.0)

pub returns : goal.returns
unfolding after_words
returns c = rw (
  c.note_behind.ensures,
  c.place_after_words.ensures,
  c.requires.1.1.1.1.1,
)
