-- `take_words` counts the words of an instruction, stores those that are read, and goes behind them.
use native.Mathlib.Omega.{arith}
use Rattle.answers.proofs.VisitRoom.{ahead_most, read_in, bytes_by_lem, bytes_kept, some_words, counted_words, words_with, read_mark, marks_to}
use Rattle.answers.proofs.take_words.Goals as goal

pub read_words-read-requires : goal.read_words-read-requires
read_words-read-requires c =
    let p = c.requires in (
      p.2.0,
      (
        omega (arith, p.2.1.1, p.0.within),
        (read_in _ _ _ _ _ p.0 _ (omega (arith, p.2.1.0, ahead_most c.args.rules.q c.args.here.position c.args.here.left)) c.in-Incoming.is, (p.0.even.incoming, (p.0.row_formed, p.1.are))),
      ),
    )

pub behind_words-requires : goal.behind_words-requires
behind_words-requires c =
    let p = c.requires in
    let k = c.read_words-read.ensures in
    words_with _ _ _ _ _ p.0 _ (some_words p.2 k.0 k.1.0 k.1.1.0) (omega (arith, p.0.taken, c.ranges))
    (read_mark _ _ _ _ c.read_words-read.result.words c.in-Incoming.is k.1.1.1.1)

pub after_words-requires : goal.after_words-requires
after_words-requires c =
    let p = c.requires in
    words_with _ _ _ _ _ p.0 _ (counted_words p.2 p.1 c.pass_words-words.ensures) (omega (arith, p.0.taken)) (marks_to _ _ _ _ _ p.0)

pub returns-in-Incoming : goal.returns-in-Incoming
returns-in-Incoming c =
    let k = c.read_words-read.ensures in
    record {
      count = c.read_words-read.result.words;
      words = some_words c.requires.2 k.0 k.1.0 k.1.1.0;
      behind = c.behind_words.ensures;
      bytes = bytes_by_lem _ _ _ _ _ _ _ c.in-Incoming.is k.1.1.1.0;
    }

pub returns-in-Outgoing : goal.returns-in-Outgoing
returns-in-Outgoing c =
    record {
      count = c.pass_words-words.result;
      words = counted_words c.requires.2 c.requires.1 c.pass_words-words.ensures;
      behind = c.after_words.ensures;
      bytes = bytes_kept _ _ _ _ _ c.in-Outgoing.is;
    }
