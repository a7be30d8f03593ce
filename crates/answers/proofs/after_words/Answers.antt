-- `after_words` is `after_words`, by `behind_words` with the marks behind them.
use Rattle.answers.proofs.after_words.Goals as goal

pub behind_words-requires : goal.behind_words-requires
behind_words-requires c =
    let p = c.requires in (p.0, (p.1.0, (p.1.1.0, (p.1.1.1.0, (p.1.1.1.1.0, c.marks_behind.ensures)))))

pub returns : goal.returns
returns c = c.behind_words.ensures
