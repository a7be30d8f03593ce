-- `last_word` stores the word of a read, and the mark of its direction is behind it; a write and a control store nothing.
use Rattle.answers.proofs.VisitRoom.{marks_to, read_one, words_left, read_mark, written_mark, mark_one, bytes_one, bytes_by_lem}
use native.Mathlib.Omega.{arith}
use mathlib.Core.Path.{refl, ◌∙◌}
use Rattle.answers.proofs.last_word.Goals as goal

pub read_word-requires : goal.read_word-requires
read_word-requires c = let p = c.requires in (
  read_one _ _ _ _ _ p.0 (words_left _ _ _ _ _ p.0 1 p.1) c.in-Incoming.is,
  (omega (arith, p.1.answered, p.0.within), p.0.row_formed),
)

pub mark_behind-requires : goal.mark_behind-requires
mark_behind-requires c =
    let m = marks_to _ _ _ _ _ c.requires.0 in (omega arith, (m.outgoing, m.even.outgoing))

pub returns-in-Incoming : goal.returns-in-Incoming
returns-in-Incoming c =
    let e = c.in-Incoming.is in
    let w = c.read_word.ensures in (read_mark _ _ _ _ 1 e (w.0 ∙ mark_one _ _), bytes_one _ _ _ _ _ e w.1)

pub returns-in-Outgoing : goal.returns-in-Outgoing
returns-in-Outgoing c =
    let e = c.in-Outgoing.is in (written_mark _ _ _ _ 1 e c.mark_behind.ensures, bytes_by_lem _ _ _ _ 1 _ _ e refl)

pub returns-in-Neither : goal.returns-in-Neither
returns-in-Neither c = let e = c.in-Neither.is in (rw e, bytes_by_lem _ _ _ _ 1 _ _ e refl)
