-- `rules_in` is `rules_in`, field by field: each is what the bits of the first longword say of it.
use Rattle.camac.proofs.BitLaws.{command_qmode, command_wide, command_ad}
use Rattle.answers.specs.model.Visit.{rules_of, rules_in}
use Rattle.answers.proofs.rules_in.Goals as goal

pub returns : goal.returns
unfolding rules_of rules_in
returns c =
    rw (
      command_qmode,
      command_wide,
      command_ad,
      c.word_flags.ensures,
      c.is_wide.ensures,
      c.has_ad-ad.ensures,
      c.direction_in-direction.ensures 0,
      c.passed_qmode-q.ensures,
    )
