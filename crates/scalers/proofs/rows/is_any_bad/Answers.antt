-- `is_any_bad` finds a longword that does not pass, if there is one.
use mathlib.Core.Path.{◌∙◌}
use mathlib.Core.Bool.{false, ◌||◌}
use borrow.Author.Rules.{rules}
use Rattle.std.proofs.lemmas.Iterator.{YieldsList-from_slice}
use Rattle.std.proofs.lemmas.Iterator.Consumers.{fold_from_yields_List}
use Rattle.scalers.proofs.Chunks.{bad_in, found_any}
use Rattle.scalers.proofs.rows.is_any_bad.Goals as goal

pub returns : goal.returns
returns c =
    let p = bad_in c.args.way in
    fold_from_yields_List _ (λ b w. b || p w) false _ c.fold.ensures.ran (YieldsList-from_slice _ c.iter.ensures.rest) (λ b w r q k. search rules)
    ∙ found_any p c.args.longwords.now
