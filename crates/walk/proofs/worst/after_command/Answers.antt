-- `after_command` is `after_command`: each part is what the callee for it ensures.
use Rattle.walk.specs.model.Sums.{after_command}
use Rattle.walk.proofs.worst.after_command.Goals as goal

pub returns : goal.returns
unfolding after_command
returns c =
    simp (
      c.added_by.ensures,
      c.direction_of.ensures,
      c.worst_words.ensures.0,
      c.position_of.ensures,
      c.qmode_of.ensures,
      c.words_of-words.ensures,
    )
