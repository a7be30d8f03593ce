-- `first_bad` finds the first longword that does not pass, and its place is four for each before it.
use mathlib.Core.Path.{◌≡◌, sym, ap, ◌∙◌}
use mathlib.Core.Bool.{true, false}
use borrow.Author.Rules.{rules}
use Rattle.std.specs.Prelude.{option_map, ◌*◌}
use Rattle.std.proofs.lemmas.Iterator.{IsFirst-from_position, YieldsList-from_slice}
use Rattle.scalers.proofs.Chunks.{bad_in, checked_found, checked_row, checked_any}
use Rattle.scalers.proofs.rows.first_bad.Goals as goal

pub returns-then-not-is_any_bad : goal.returns-then-not-is_any_bad
returns-then-not-is_any_bad c =
    checked_any c.args.way _ (sym c.is_any_bad.ensures ∙ c.if-not-is_any_bad.true)
    ∙ checked_row c.args.way c.args.row.now c.requires c.as_chunks.ensures.front

pub returns-in_err-n : goal.returns-in_err-n
returns-in_err-n c =
    let bad = bad_in c.args.way in
    c.from_residual.ensures
    ∙ ap (option_map (λ i. 4 * i)) (sym c.in_err-n.was)
    ∙ checked_found c.args.way _ _
    (IsFirst-from_position _ _ _ (λ w. bad w ≡ true) (λ w. bad w ≡ false) c.position.ensures.ran (YieldsList-from_slice _ c.iter.ensures.rest) (λ x q k. search rules) (λ x q k. search rules))
    ∙ checked_row c.args.way c.args.row.now c.requires c.as_chunks.ensures.front

pub returns : goal.returns
returns c =
    let bad = bad_in c.args.way in
    ap (option_map (λ i. 4 * i)) (sym c.in_ok-n.was)
    ∙ checked_found c.args.way _ _
    (IsFirst-from_position _ _ _ (λ w. bad w ≡ true) (λ w. bad w ≡ false) c.position.ensures.ran (YieldsList-from_slice _ c.iter.ensures.rest) (λ x q k. search rules) (λ x q k. search rules))
    ∙ checked_row c.args.way c.args.row.now c.requires c.as_chunks.ensures.front
