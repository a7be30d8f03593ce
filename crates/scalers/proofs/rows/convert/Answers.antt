-- `convert` is `convert_of`: a row of no whole longwords and one with a bad longword are refused as they are, any other is converted.
use mathlib.Core.Path.{sym, ap, ◌∙◌}
use native.Mathlib.Omega.{arith}
use Rattle.base.specs.Refusals.{not_refused, told}
use Rattle.scalers.specs.Scalers.{Outcome, leaving}
use Rattle.scalers.proofs.RowLaws.{no_longwords, by_check}
use Rattle.scalers.proofs.rows.convert.Goals as goal

pub returns-then-row-ne0 : goal.returns-then-row-ne0
returns-then-row-ne0 c =
    let e = no_longwords c.args.way c.args.row.now (λ e. omega (arith, c.if-row-ne0.true)) in
    record { answer = ap told c.from.ensures ∙ ap (λ (o : Outcome). o.refusal) (sym e); bytes = ap (λ (o : Outcome). o.row) (sym e) }

pub returns-in-Some : goal.returns-in-Some
returns-in-Some c =
    let e = by_check _ _ c.if-row-ne0.false (sym c.in-Some.is ∙ c.first_bad.ensures) in
    record { answer = ap (λ (o : Outcome). o.refusal) (sym e); bytes = ap (λ (o : Outcome). o.row) (sym e) }

pub returns : goal.returns
returns c =
    let e =
    by_check _ _ c.if-row-ne0.false (sym c.in_default.is ∙ c.first_bad.ensures)
    ∙ ap (leaving not_refused) (sym c.convert_all.ensures) in
    record { answer = ap (λ (o : Outcome). o.refusal) (sym e); bytes = ap (λ (o : Outcome). o.row) (sym e) }
